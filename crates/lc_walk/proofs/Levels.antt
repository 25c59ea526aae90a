-- What holds of every level.
use Rattle.std.proofs.Common.{arith, ◌≡◌, ℕ, cond, Bool, true, false, List, [], ◌∷◌, ◌++◌, refl, sym, subst, ◌⊎◌, inl, Option, Some}
use Rattle.std.proofs.{Common.{Result, Ok, Err, bytes_eq}, lemmas.{Grind.common_steps, Bool.and_parts}}
use Rattle.std.specs.List.{flat_map, AllByRecursion}
use Rattle.lc_tree.specs.Listing.{IsListing}
use Rattle.lc_level.specs.{declared.fault_word.FaultWord.FaultWord, Answers.{Item, directory_item, Items, Answers, name_of}, Job.JobModel}
use Rattle.lc_level.specs.{FaultLines.FaultLineModel, RuleFiles.{RuleBytes, extended, and_then, both_read, rule_bytes}, Level.Level}
use Rattle.lc_level.specs.Level.{faulted_level, level, level_of_items, is_taken, child_job, walked_in, fates_of, level_after, level_of}
use Rattle.lc_level.specs.{Narrowing.part_of, Filters.FiltersModel, WellFormed.{IsWellFormed, listed_in}}
use Rattle.lc_glob.specs.Path.{path_in}
use Rattle.lc_walk.specs.Found.{children_of, children_at}
use Rattle.lc_level.proofs.{WellFormed.{IsGoodName, good_one, Spread, spread}, Fates.{children_by, walked_items_are}}
use Rattle.lc_walk.proofs.TakingPart.{spread_part}

-- a level is that of items whose rule files were read, or of a fault
pub level_cases : (P : Level → Type 0) (filters : FiltersModel) (j : JobModel) (a : Answers)
    → ((w : FaultWord) → a.here ≡ Err w → P (faulted_level j.path w)) →
    ((items : List Item) → a.here ≡ Ok items → (f : FaultLineModel) → rule_bytes j.ignore.no_ignore j.path items a ≡ Err f
    → P (faulted_level f.path f.word)) →
    ((items : List Item) → a.here ≡ Ok items → (b : RuleBytes) → rule_bytes j.ignore.no_ignore j.path items a ≡ Ok b
    → P (level_of_items filters items (extended j b))) → P (level filters j a)
level_cases P filters j a unlisted unread items_are = at a.here refl
  where
    after : (items : List Item) → a.here ≡ Ok items → (r : Result RuleBytes FaultLineModel)
        → rule_bytes j.ignore.no_ignore j.path items a ≡ r → P (level_after filters j items r)
    after items e (Ok b) read = items_are items e b read
    after items e (Err f) read = unread items e f read

    at : (o : Items) → a.here ≡ o → P (level_of filters j a o)
    at (Ok items) e = after items e (rule_bytes j.ignore.no_ignore j.path items a) refl
    at (Err word) e = unlisted word e

-- what holds of each fault, and of the level of the items with any chains, holds of the level
pub level_keeps : (P : Level → Type 0) (filters : FiltersModel) (j : JobModel) (a : Answers)
    → ((p : List ℕ) (w : FaultWord) → P (faulted_level p w)) →
    ((items : List Item) → a.here ≡ Ok items → (b : RuleBytes) → P (level_of_items filters items (extended j b))) →
    P (level filters j a)
level_keeps P filters j a faults items_keep =
    level_cases P filters j a (λ w e. faults j.path w) (λ items e f read. faults f.path f.word) (λ items e b read. items_keep items e b)

-- what holds of each fault, and of the levels of the same items, holds of the levels by two filters
pub both_levels : (P : Level → Level → Type 0) (one two : FiltersModel) (j : JobModel) (a : Answers)
    → ((p : List ℕ) (w : FaultWord) → P (faulted_level p w) (faulted_level p w)) →
    ((items : List Item) (b : RuleBytes) → P (level_of_items one items (extended j b)) (level_of_items two items (extended j b))) →
    P (level one j a) (level two j a)
both_levels P one two j a faults items_keep = at a.here
  where
    after : (items : List Item) (r : Result RuleBytes FaultLineModel) → P (level_after one j items r) (level_after two j items r)
    after items (Ok b) = items_keep items b
    after items (Err f) = faults f.path f.word

    at : (o : Items) → P (level_of one j a o) (level_of two j a o)
    at (Ok items) = after items (rule_bytes j.ignore.no_ignore j.path items a)
    at (Err word) = faults j.path word

-- ---- where a directory can be at fault

-- at the directory itself, at a name in it, or anywhere, of the top
abbrev pub IsOwnPlace : List ℕ → List ℕ → Type 0
IsOwnPlace d p = (p ≡ d) ⊎ (((n : List ℕ) × IsGoodName n × (p ≡ path_in d n)) ⊎ (d ≡ []))

-- what holds of the fault, if there is one
abbrev pub IfFault : {A : Type 0} → (FaultLineModel → Type 0) → Result A FaultLineModel → Type 0
IfFault P (Ok x) = Unit {0}
IfFault P (Err f) = P f

pub fault_of_and_then : {A B : Type 0} (P : FaultLineModel → Type 0) (r : Result A FaultLineModel)
    (next : A → Result B FaultLineModel) → IfFault P r → ((x : A) → r ≡ Ok x → IfFault P (next x)) → IfFault P (and_then r next)
fault_of_and_then P r next first rest = grind (arith, common_steps)

pub fault_of_both : (P : FaultLineModel → Type 0) (p : List ℕ) (o : Option (Result (List ℕ) FaultWord)) (q : List ℕ)
    (u : Option (Result (List ℕ) FaultWord)) → ((w : FaultWord) → o ≡ Some (Err w) → P (record { path = p; word = w }))
    → ((w : FaultWord) → u ≡ Some (Err w) → P (record { path = q; word = w })) → IfFault P (both_read p o q u)
fault_of_both P p o q u k l = grind (arith, common_steps, fault_of_and_then)

-- a fault of rule files has the path of one of them
fault_place : (no_ignore : Bool) (path : List ℕ) (items : List Item) (a : Answers)
    → IfFault (λ f. IsOwnPlace path f.path) (rule_bytes no_ignore path items a)
fault_place no_ignore path items a = grind (arith, common_steps, fault_of_and_then, and_parts, fault_of_both, good_one)

-- the same, where the fault may be known to lie in the directory
pub own_level_keeps : (P : Level → Type 0) (filters : FiltersModel) (j : JobModel) (a : Answers)
    → ((p : List ℕ) (w : FaultWord) → IsOwnPlace j.path p → P (faulted_level p w)) →
    ((items : List Item) → a.here ≡ Ok items → (b : RuleBytes) → P (level_of_items filters items (extended j b))) →
    P (level filters j a)
own_level_keeps P filters j a faults items_keep =
    level_cases P filters j a (λ w e. faults j.path w (inl refl))
    (λ items e f read. faults f.path f.word
    (subst (IfFault (λ d. IsOwnPlace j.path d.path)) read (fault_place j.ignore.no_ignore j.path items a)))
    (λ items e b read. items_keep items e b)

-- ---- the child directories

-- no two have one name
abbrev pub IsApart : List (List ℕ × JobModel) → Type 0
IsApart [] = Unit {0}
IsApart (c ∷ cs) = AllByRecursion (λ d. bytes_eq d.0 c.0 ≡ false) cs × IsApart cs

-- a child has a good name, and its path is the directory's with that name
abbrev pub IsChild : List ℕ → (List ℕ × JobModel) → Type 0
IsChild p c = IsGoodName c.0 × (c.1.path ≡ path_in p c.0)

each_by_item : (filters : FiltersModel) (j : JobModel) (P : List ℕ × JobModel → Type 0) (Q : List ℕ → Type 0) →
    ((n : List ℕ) → Q n → P (n, child_job j n)) →
    (es : List Item) → AllByRecursion (λ e. Q (name_of e)) es → AllByRecursion P (flat_map (children_by filters j) es)
each_by_item filters j P Q f [] a = tt
each_by_item filters j P Q f (directory_item n ∷ es) a =
    grind (arith, common_steps, children_by, each_by_item filters j P Q f es a.1)
each_by_item filters j P Q f (item ∷ es) a = each_by_item filters j P Q f es a.1

-- what holds of the names of all directories among some items holds of their children
pub each_child : (filters : FiltersModel) (j : JobModel) (P : List ℕ × JobModel → Type 0) (Q : List ℕ → Type 0) →
    ((n : List ℕ) → Q n → P (n, child_job j n)) →
    (es : List Item) → AllByRecursion (λ e. Q (name_of e)) es → AllByRecursion P (walked_in (fates_of filters j es))
each_child filters j P Q f es a = subst (AllByRecursion P) (sym (walked_items_are filters j es)) (each_by_item filters j P Q f es a)

apart_cond : (b : Bool) (c : List ℕ × JobModel) (cs : List (List ℕ × JobModel)) → AllByRecursion (λ d. bytes_eq d.0 c.0 ≡ false) cs
    → IsApart cs → IsApart (cond b (c ∷ []) [] ++ cs)
apart_cond b c cs a apart = grind (arith, common_steps)

apart_children : (filters : FiltersModel) (j : JobModel) (es : List Item) → Spread es → IsApart (flat_map (children_by filters j) es)
apart_children filters j [] t = tt
apart_children filters j (directory_item n ∷ es) t =
    apart_cond (is_taken filters j n true) (n, child_job j n) (flat_map (children_by filters j) es)
    (each_by_item filters j (λ d. bytes_eq d.0 n ≡ false) (λ m. bytes_eq m n ≡ false) (λ m e. e) es t.0)
    (apart_children filters j es t.2)
apart_children filters j (item ∷ es) t = apart_children filters j es t.2

-- of which each is good
pub good_names : (es : List Item) → Spread es → AllByRecursion (λ e. IsGoodName (name_of e)) es
good_names [] t = tt
good_names (e ∷ es) t = (t.1, good_names es t.2)

-- the items of well-formed answers have good names, no two the same
pub well_formed_items : (a : Answers) → IsWellFormed a → (es : List Item) → a.here ≡ Ok es → Spread es
well_formed_items a t es e = spread es (subst (λ (o : Items). IsListing (listed_in o)) e t.here)

-- so have those that take part
pub well_formed_part : (only : Option (List (List ℕ))) (d : List ℕ) (a : Answers) → IsWellFormed a → (es : List Item) → a.here ≡ Ok es
    → Spread (part_of only d es)
well_formed_part only d a t es e = spread_part only d es (well_formed_items a t es e)

-- and the child directories of a level
pub apart_level : (filters : FiltersModel) (j : JobModel) (a : Answers) → IsWellFormed a → IsApart (children_at filters j a)
apart_level filters j a t =
    level_keeps (λ l. IsApart (children_of l)) filters j a (λ p w. tt)
    (λ es e b. subst IsApart (sym (walked_items_are filters (extended j b) (part_of filters.only j.path es)))
    (apart_children filters (extended j b) (part_of filters.only j.path es) (well_formed_part filters.only j.path a t es e)))

-- and each is a child of the directory, by its name
pub good_level : (filters : FiltersModel) (j : JobModel) (a : Answers) → IsWellFormed a →
    AllByRecursion (IsChild j.path) (children_at filters j a)
good_level filters j a t =
    level_keeps (λ l. AllByRecursion (IsChild j.path) (children_of l)) filters j a (λ p w. tt)
    (λ es e b.
    let part = part_of filters.only j.path es in
    each_child filters (extended j b) (IsChild j.path) IsGoodName (λ n g. (g, refl)) part
    (good_names part (well_formed_part filters.only j.path a t es e)))

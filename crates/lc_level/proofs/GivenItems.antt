-- The items of a directory, by what the files of each name give.
use Rattle.std.proofs.Common.{◌≡◌, ℕ, Bool, true, false, cond, ◌&&◌, ◌||◌, List, [], ◌∷◌, refl, sym, ◌∙◌, ap, subst, Option, Some, None}
use Rattle.std.proofs.Common.{Result, map, bytes_eq, unwrap_or}
use Rattle.std.specs.List.{AllByRecursion}
use Rattle.lc_census.specs.declared.line_count.Count.{Count}
use Rattle.lc_glob.specs.Path.{path_in}
use Rattle.lc_level.specs.{Answers.{Item, file_item, directory_item, other_item, entry_of, entries_of}, EntryLooks.{has_file, has_dir}}
use Rattle.lc_level.specs.{RuleFiles.{file_named, has_directory}, RuleReads.MayGive, TreeAnswers.MayHave, FileReads.MayCount}
use Rattle.lc_level.specs.{FileReads.MayReadRules, declared.fault_word.FaultWord.FaultWord}
use Rattle.lc_tree.specs.{Kinds.{is_file, is_dir}, Listing.EntryModel, Trees.{Listings, Contents}, declared.entry.Kind.Kind}
use Rattle.lc_tree.specs.declared.entry.Kind.TheVariants.{File, Dir, Other}
use Rattle.lc_level.proofs.WellFormed.{same_bytes, bytes_same}

-- what the file of each name gives where it is counted, and where it is read as rules
abbrev pub Counted : Type 0
Counted = List ℕ → Result Count FaultWord

abbrev pub AsRules : Type 0
AsRules = List ℕ → Result (List ℕ) FaultWord

abbrev pub item_of : Counted → AsRules → List ℕ → Kind → Item
item_of counted rules name File = file_item name (counted name) (rules name)
item_of counted rules name Dir = directory_item name
item_of counted rules name (Other what) = other_item name what

abbrev pub item_at : Counted → AsRules → EntryModel → Item
item_at counted rules e = item_of counted rules e.name e.kind

abbrev pub items_at : Counted → AsRules → List EntryModel → List Item
items_at counted rules es = map (item_at counted rules) es

entry_item : (counted : Counted) (rules : AsRules) (name : List ℕ) (kind : Kind)
    → entry_of (item_of counted rules name kind) ≡ record { name = name; kind = kind }
entry_item counted rules name File = refl
entry_item counted rules name Dir = refl
entry_item counted rules name (Other what) = refl

-- they are items of these entries
pub entries_items : (counted : Counted) (rules : AsRules) (es : List EntryModel) → entries_of (items_at counted rules es) ≡ es
entries_items counted rules [] = refl
entries_items counted rules (e ∷ es) =
    ap (λ (d : EntryModel). d ∷ entries_of (items_at counted rules es)) (entry_item counted rules e.name e.kind)
    ∙ ap (λ l. e ∷ l) (entries_items counted rules es)

-- the file of a name gives what files of that name give, if it is there
named_one : (counted : Counted) (rules : AsRules) (n m : List ℕ) (kind : Kind) (any : Bool) (items : List Item) →
    file_named n items ≡ cond any (Some (rules n)) None
    → file_named n (item_of counted rules m kind ∷ items) ≡ cond ((is_file kind && bytes_eq m n) || any) (Some (rules n)) None
named_one counted rules n m File any items e = at (bytes_eq m n) refl
  where
    at : (b : Bool) → bytes_eq m n ≡ b → cond b (Some (rules m)) (file_named n items) ≡ cond (b || any) (Some (rules n)) None
    at true same = ap (λ l. Some (rules l)) (same_bytes m n same)
    at false other = e
named_one counted rules n m Dir any items e = e
named_one counted rules n m (Other what) any items e = e

-- a file of a name is among the items where it is among the entries
pub file_items : (counted : Counted) (rules : AsRules) (n : List ℕ) (es : List EntryModel)
    → file_named n (items_at counted rules es) ≡ cond (has_file n es) (Some (rules n)) None
file_items counted rules n [] = refl
file_items counted rules n (e ∷ es) =
    named_one counted rules n e.name e.kind (has_file n es) (items_at counted rules es) (file_items counted rules n es)

directory_one : (counted : Counted) (rules : AsRules) (n m : List ℕ) (kind : Kind) (any : Bool) (items : List Item) →
    has_directory n items ≡ any → has_directory n (item_of counted rules m kind ∷ items) ≡ ((is_dir kind && bytes_eq m n) || any)
directory_one counted rules n m File any items e = e
directory_one counted rules n m Dir any items e = ap (λ b. bytes_eq m n || b) e
directory_one counted rules n m (Other what) any items e = e

-- and so is a directory
pub directory_items : (counted : Counted) (rules : AsRules) (n : List ℕ) (es : List EntryModel)
    → has_directory n (items_at counted rules es) ≡ has_dir n es
directory_items counted rules n [] = refl
directory_items counted rules n (e ∷ es) =
    directory_one counted rules n e.name e.kind (has_dir n es) (items_at counted rules es) (directory_items counted rules n es)

-- a tree may have them, if its files may give this
module _ (lists : List ℕ → Listings) (gives : List ℕ → Contents) (path : List ℕ) (counted : Counted) (rules : AsRules)
    (may_count : (n : List ℕ) → MayCount (gives (path_in path n)) (counted n))
    (may_read : (n : List ℕ) → MayReadRules (gives (path_in path n)) (rules n)) where
  may_one : (name : List ℕ) (kind : Kind) → MayHave lists gives path (item_of counted rules name kind)
  may_one name File = (may_count name, may_read name)
  may_one name Dir = tt
  may_one name (Other what) = tt

  -- a tree may have items whose files give what it may give
  pub may_items : (es : List EntryModel) → AllByRecursion (MayHave lists gives path) (items_at counted rules es)
  may_items [] = tt
  may_items (e ∷ es) = (may_one e.name e.kind, may_items es)

-- ---- what the file of one name gave

-- the same of all names but one, whose file gave this, if it is there
abbrev pub but : List ℕ → Option (Result (List ℕ) FaultWord) → AsRules → AsRules
but name read rules n = cond (bytes_eq n name) (unwrap_or read (rules n)) (rules n)

-- what is given for the name itself
pub at_name : (name : List ℕ) (x : Result (List ℕ) FaultWord) (rules : AsRules) → but name (Some x) rules name ≡ x
at_name name x rules = ap (λ b. cond b x (rules name)) (bytes_same name name refl)

-- and for any other
pub at_other : (name other : List ℕ) (read : Option (Result (List ℕ) FaultWord)) (rules : AsRules) → bytes_eq other name ≡ false
    → but name read rules other ≡ rules other
at_other name other read rules e = ap (λ b. cond b (unwrap_or read (rules other)) (rules other)) e

-- where one name's answer is replaced by one that the tree may give, all are so
pub may_but : (gives : List ℕ → Contents) (name : List ℕ) (there : Bool) (read : Option (Result (List ℕ) FaultWord)) (rules : AsRules)
    → MayGive (gives name) there read →
    ((n : List ℕ) → MayReadRules (gives n) (rules n)) → (n : List ℕ) → MayReadRules (gives n) (but name read rules n)
may_but gives name there read rules may all n = at read may (bytes_eq n name) refl
  where
    at : (o : Option (Result (List ℕ) FaultWord)) → MayGive (gives name) there o → (b : Bool) → bytes_eq n name ≡ b
        → MayReadRules (gives n) (cond b (unwrap_or o (rules n)) (rules n))
    at None m true e = all n
    at None m false e = all n
    at (Some x) m true e = subst (λ l. MayReadRules (gives l) x) (sym (same_bytes n name e)) m.1
    at (Some x) m false e = all n

-- the file of the name gave this
pub given_items : (gives : Contents) (counted : Counted) (rules : AsRules) (name : List ℕ) (read : Option (Result (List ℕ) FaultWord))
    (es : List EntryModel) →
    MayGive gives (has_file name es) read → ((x : Result (List ℕ) FaultWord) → read ≡ Some x → rules name ≡ x)
    → file_named name (items_at counted rules es) ≡ read
given_items gives counted rules name None es may is = file_items counted rules name es ∙ ap (λ b. cond b (Some (rules name)) None) may
given_items gives counted rules name (Some x) es may is =
    file_items counted rules name es ∙ ap (λ b. cond b (Some (rules name)) None) may.0 ∙ ap Some (is x refl)

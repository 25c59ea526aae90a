-- No answer of a tree is that a path is absent.
use Rattle.std.proofs.Common.{arith, rules, ◌≡◌, ◌≢◌, ℕ, zero, suc, Bool, true, false, cond, List, [], ◌∷◌, refl, ◌∙◌, ap, subst, Option}
use Rattle.std.proofs.{Common.{Some, Result, Ok, Err, codes, bytes_eq, ◌⊎◌, inr}, lemmas.Grind.common_steps}
use Rattle.std.specs.{List.AllByRecursion, Option.option_map_or}
use Rattle.lc_board.proofs.Weights.{each-append}
use Rattle.lc_glob.specs.Path.{path_in}
use Rattle.lc_level.specs.{Answers.{Item, file_item, directory_item, other_item, entry_of, Items, Answers, Tree}, FaultLines.FaultLineModel}
use Rattle.lc_level.specs.{FaultWords.fault_word_of, FileReads.MayReadRules, Job.JobModel, Level.{Fate, failed, skipped, Reason, Level}}
use Rattle.lc_level.specs.{Level.{faulted_level, listed_level, level, fates_of}, Narrowing.{part_of, takes_part}, RuleFiles.file_named}
use Rattle.lc_level.specs.RuleFiles.{ignore_named, has_directory, has_git, and_then, listing, info_items, info_bytes, own_bytes}
use Rattle.lc_level.specs.{RuleFiles.{rule_bytes, extended}, Filters.FiltersModel, TreeAnswers.{MayHave, MayList, MayAnswer, items_of}}
use Rattle.lc_level.specs.declared.fault_word.FaultWord.{FaultWord}
use Rattle.lc_tree.specs.{Trees.{Listings, Contents}, declared.{entry.Kind.Kind, read_fault.ReadFault.ReadFault}}
use Rattle.lc_walk.specs.{Found.children_at, FoundAt.LeadsTo, RecursiveWalk.{walks_below, walk_by}}
use Rattle.lc_walk.proofs.{Elements.In, FoundByPlace.child_by_level, TakingPart.each_filter, Levels.{IfFault, fault_of_and_then}}
use Rattle.lc_walk.proofs.Levels.{fault_of_both, level_cases}
use Rattle.lc_level.specs.declared.fault_word.FaultWord.TheVariants as word

-- a word is another than that of what is absent
abbrev pub IsOther : FaultWord → Type 0
IsOther w = w ≢ word.Absent

-- ---- what each call answers

of_listing : (fault : ReadFault) (w : FaultWord) → fault_word_of fault ≡ Some w → IsOther w
of_listing fault w e = grind (arith, common_steps)

of_rules : (gives : Contents) (w : FaultWord) → MayReadRules gives (Err w) → IsOther w
of_rules gives w may is = subst (λ x. MayReadRules gives (Err x)) is may

-- ---- what is read before the entries

-- the fault, if there is one, has another word
abbrev IsFine : {A : Type 0} → Result A FaultLineModel → Type 0
IsFine r = IfFault (λ f. IsOther f.word) r

-- what was listed: there is something, or there are no items
listed_there : (there : Bool) (p : List ℕ) (o : Items) (items : List Item) → listing there p o ≡ Ok items
    → ((there ≡ true) × (o ≡ Ok items)) ⊎ (items ≡ [])
listed_there there p o items e = grind (arith, common_steps)

module _ (lists : List ℕ → Listings) (gives : List ℕ → Contents) where
  list_word : (path : List ℕ) (o : Items) → MayList lists gives path o → (w : FaultWord) → o ≡ Err w → IsOther w
  list_word path o may w e = let failed_by = subst (MayList lists gives path) e may in of_listing failed_by.0 w failed_by.1

  named_word : (path name : List ℕ) (items : List Item) → AllByRecursion (MayHave lists gives path) items → (w : FaultWord)
      → file_named name items ≡ Some (Err w) → IsOther w
  named_word path name [] all w e = absurd (cc e)
  named_word path name (file_item m c rules ∷ items) all w e = at (bytes_eq m name) (named_word path name items all.1 w) e
    where
      at : (b : Bool) → (file_named name items ≡ Some (Err w) → IsOther w) → cond b (Some rules) (file_named name items) ≡ Some (Err w)
          → IsOther w
      at true rest f =
          let same : rules ≡ Err w = cc f in
          of_rules (gives (path_in path m)) w (subst (MayReadRules (gives (path_in path m))) same all.0.1)
      at false rest f = rest f
  named_word path name (item ∷ items) all w e = named_word path name items all.1 w e

  ignore_word : (no_ignore : Bool) (path name : List ℕ) (items : List Item) → AllByRecursion (MayHave lists gives path) items
      → (w : FaultWord) → ignore_named no_ignore name items ≡ Some (Err w) → IsOther w
  ignore_word true path name items all w e = absurd (cc e)
  ignore_word false path name items all w e = named_word path name items all w e

  module _ (path : List ℕ) (a : Answers) (may : MayAnswer lists gives path a) (items : List Item) (here : a.here ≡ Ok items) where
    all_here : AllByRecursion (MayHave lists gives path) items
    all_here = (subst (MayList lists gives path) here may.here).1

    git_asked : has_git path items ≡ true → has_git path (items_of a.here) ≡ true
    git_asked e = ap (λ (o : Items). has_git path (items_of o)) here ∙ e

    info_asked : (in_git : List Item) → listing (has_git path items) (codes ".git") a.git ≡ Ok in_git
        → has_directory (codes "info") in_git ≡ true → MayList lists gives (codes ".git/info") a.info
    info_asked in_git e has = grind (arith, common_steps, listed_there, git_asked)

    info_fine : IsFine (info_items (has_git path items) a)
    info_fine = grind (arith, common_steps, fault_of_and_then, list_word, git_asked, info_asked)

    info_has : (xs : List Item) → info_items (has_git path items) a ≡ Ok xs → AllByRecursion (MayHave lists gives (codes ".git/info")) xs
    info_has xs e = grind (arith, common_steps, info_asked, listed_there)

    -- a rule file that could not be read is none that is absent
    rules_fine : (no_ignore : Bool) → IsFine (rule_bytes no_ignore path items a)
    rules_fine no_ignore =
        fault_of_and_then (λ f. IsOther f.word) (and_then (info_items (has_git path items) a) (info_bytes no_ignore))
        (λ i. and_then (own_bytes no_ignore path items) (λ o. Ok (record { info = i; own = o })))
        (fault_of_and_then (λ f. IsOther f.word) (info_items (has_git path items) a) (info_bytes no_ignore) info_fine
        (λ xs e. fault_of_both (λ f. IsOther f.word) (codes ".git/info/exclude") (ignore_named no_ignore (codes "exclude") xs)
        (codes ".git/info/attributes") (file_named (codes "attributes") xs)
        (ignore_word no_ignore (codes ".git/info") (codes "exclude") xs (info_has xs e))
        (named_word (codes ".git/info") (codes "attributes") xs (info_has xs e))))
        (λ i e. fault_of_and_then (λ f. IsOther f.word) (own_bytes no_ignore path items) (λ o. Ok (record { info = i; own = o }))
        (fault_of_both (λ f. IsOther f.word) (path_in path (codes ".gitignore")) (ignore_named no_ignore (codes ".gitignore") items)
        (path_in path (codes ".gitattributes")) (file_named (codes ".gitattributes") items)
        (ignore_word no_ignore path (codes ".gitignore") items all_here) (named_word path (codes ".gitattributes") items all_here))
        (λ o f. tt))

-- ---- one directory

-- a file that could not be counted is none that is absent
abbrev pub IsFineFate : Fate → Type 0
IsFineFate (failed w) = IsOther w
IsFineFate fate = Unit {0}

-- a directory gives no fault but of what is there, beside what is asked for and absent
abbrev pub IsFineLevel : Level → Type 0
IsFineLevel (faulted_level path w) = IsOther w
IsFineLevel (listed_level fates absent) = AllByRecursion (λ f. IsFineFate f.1) fates

fine_or : (kind : Kind) (o : Option Reason) (own : Fate) → IsFineFate own → IsFineFate (option_map_or (skipped kind) o own)
fine_or kind o own fine = grind (arith, common_steps)

module _ (lists : List ℕ → Listings) (gives : List ℕ → Contents) (s : FiltersModel) where
  fates_fine : (k : JobModel) (path : List ℕ) (items : List Item) → AllByRecursion (MayHave lists gives path) items
      → AllByRecursion (λ f. IsFineFate f.1) (fates_of s k items)
  fates_fine k path [] all = tt
  fates_fine k path (file_item n c rules ∷ items) all = grind (arith, common_steps, fine_or, fates_fine k path items all.1)
  fates_fine k path (directory_item n ∷ items) all = grind (arith, common_steps, fine_or, fates_fine k path items all.1)
  fates_fine k path (other_item n what ∷ items) all = grind (arith, common_steps, fine_or, fates_fine k path items all.1)

  -- so it is by answers that a tree may give
  pub level_fine : (j : JobModel) (a : Answers) → MayAnswer lists gives j.path a → IsFineLevel (level s j a)
  level_fine j a may =
      level_cases IsFineLevel s j a (λ w here. list_word lists gives j.path a.here may.here w here)
      (λ items here f read. subst IsFine read (rules_fine lists gives j.path a may items here j.ignore.no_ignore))
      (λ items here b read. fates_fine (extended j b) j.path (part_of s.only j.path items)
      (each_filter (MayHave lists gives j.path) (λ item. takes_part s.only j.path (entry_of item)) items
      (all_here lists gives j.path a may items here)))

-- ---- the walk

module _ {X : Type 0} (s : FiltersModel) (found : JobModel → Answers → List X) (P : X → Type 0) where
  abbrev walk_there : ℕ → JobModel → Tree → List X
  walk_there depth j t = walk_by found (children_at s) depth j t

  each_below : (depth : ℕ) (t : Tree) (cs : List (List ℕ × JobModel))
      → ((c : List ℕ × JobModel) → In c cs → AllByRecursion P (walk_there depth c.1 (λ place. t (c.0 ∷ place))))
      → AllByRecursion P (walks_below found (children_at s) (walk_there depth) t cs)
  each_below depth t [] known = tt
  each_below depth t (c ∷ cs) known = grind (arith, common_steps, each-append, each_below depth t cs (λ d has. known d (inr has)))

  -- what holds of all that each directory gives to which names lead holds of all that a walk finds
  pub each_led : (depth : ℕ) (j : JobModel) (t : Tree)
      → ((place : List (List ℕ)) (k : JobModel) → LeadsTo s j t place k → AllByRecursion P (found k (t place)))
      → AllByRecursion P (walk_there depth j t)
  each_led zero j t each = tt
  each_led (suc depth) j t each =
      each-append P (found j (t [])) _ (each [] j refl)
      (each_below depth t (children_at s j (t [])) (λ c has.
      let l = child_by_level s j (t []) c has in
      each_led depth c.1 (λ place. t (c.0 ∷ place)) (λ place k leads.
      each (c.0 ∷ place) k (
        l.0,
        l.1,
        subst (λ (i : JobModel). LeadsTo s i (λ p. t (c.0 ∷ p)) place k) l.2 leads,
      ))))

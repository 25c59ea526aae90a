-- Where each question has one answer, each directory has one level.
use Rattle.std.proofs.Common.{◌≡◌, ℕ, Bool, true, false, List, [], ◌∷◌, refl, sym, ◌∙◌, ap, subst, Option, Some, None, Result, Ok, Err}
use Rattle.std.proofs.Common.{codes}
use Rattle.std.specs.List.{AllByRecursion}
use Rattle.lc_glob.specs.Path.{path_in}
use Rattle.lc_tree.specs.{Listing.EntryModel, Trees.{Listings, Contents}, declared.entry.Kind.{Kind, TheVariants.{File, Dir, Other}}}
use Rattle.lc_tree.specs.declared.read_fault.ReadFault.{ReadFault}
use Rattle.lc_level.specs.{FileReads.{MayCount, MayReadRules}, declared.fault_word.FaultWord.FaultWord, FaultWords.fault_word_of}
use Rattle.lc_level.specs.{Answers.{Item, file_item, directory_item, other_item, entry_of, entries_of, Items, Answers}, Job.JobModel}
use Rattle.lc_level.specs.{Level.{level, level_of, level_after}, OneAnswer.GivesOne, Filters.FiltersModel, RuleFiles.has_directory}
use Rattle.lc_level.specs.{RuleFiles.{has_git, and_then, listing, info_items, info_bytes, own_bytes, rule_bytes}, TreeAnswers.MayHave}
use Rattle.lc_level.specs.TreeAnswers.{MayList, MayAnswer, items_of}

abbrev entries_or : List EntryModel → Result (List EntryModel) ReadFault → List EntryModel
entries_or d (Ok es) = es
entries_or d (Err word) = d

abbrev word_or : Option FaultWord → Result (List EntryModel) ReadFault → Option FaultWord
word_or d (Ok es) = d
word_or d (Err fault) = fault_word_of fault

abbrev is_listed : Result (List EntryModel) ReadFault → Bool
is_listed (Ok es) = true
is_listed (Err word) = false

differ : true ≡ false → ⊥
differ e = absurd (cc e)

abbrev kind_code : Kind → ℕ
kind_code File = 0
kind_code Dir = 1
kind_code (Other what) = 2

-- the item of an entry that is neither a file nor a directory, by its kind
abbrev other_of : Kind → List ℕ → Item
other_of File name = directory_item name
other_of Dir name = directory_item name
other_of (Other what) name = other_item name what

abbrev first_or : EntryModel → List EntryModel → EntryModel
first_or d [] = d
first_or d (e ∷ es) = e

abbrev rest_of : List EntryModel → List EntryModel
rest_of [] = []
rest_of (e ∷ es) = es

module _ (lists : List ℕ → Listings) (gives : List ℕ → Contents) (one : GivesOne lists gives) where
  same_item : (path : List ℕ) (x y : Item) → MayHave lists gives path x → MayHave lists gives path y → entry_of x ≡ entry_of y → x ≡ y
  same_item path (file_item n c r) (file_item m d s) a b e =
      let name : n ≡ m = ap (λ (x : EntryModel). x.name) e in
      let count : c ≡ d = one.count (path_in path m) c d (subst (λ (l : List ℕ). MayCount (gives (path_in path l)) c) name a.0) b.0 in
      let rules : r ≡ s = one.rules (path_in path m) r s (subst (λ (l : List ℕ). MayReadRules (gives (path_in path l)) r) name a.1) b.1 in
      ap (λ l. file_item l c r) name ∙ ap (λ x. file_item m x r) count ∙ ap (λ x. file_item m d x) rules
  same_item path (directory_item n) (directory_item m) a b e = ap (λ (x : EntryModel). directory_item x.name) e
  same_item path (other_item n what) (other_item m how) a b e = ap (λ (x : EntryModel). other_of x.kind x.name) e
  same_item path (file_item n c r) (directory_item m) a b e = let h : 0 ≡ 1 = ap (λ (x : EntryModel). kind_code x.kind) e in absurd (cc h)
  same_item path (file_item n c r) (other_item m what) a b e = let h : 0 ≡ 2 = ap (λ (x : EntryModel). kind_code x.kind) e in absurd (cc h)
  same_item path (directory_item n) (file_item m d s) a b e = let h : 1 ≡ 0 = ap (λ (x : EntryModel). kind_code x.kind) e in absurd (cc h)
  same_item path (directory_item n) (other_item m what) a b e = let h : 1 ≡ 2 = ap (λ (x : EntryModel). kind_code x.kind) e in absurd (cc h)
  same_item path (other_item n what) (file_item m d s) a b e = let h : 2 ≡ 0 = ap (λ (x : EntryModel). kind_code x.kind) e in absurd (cc h)
  same_item path (other_item n what) (directory_item m) a b e = let h : 2 ≡ 1 = ap (λ (x : EntryModel). kind_code x.kind) e in absurd (cc h)

  same_items : (path : List ℕ) (xs ys : List Item) → AllByRecursion (MayHave lists gives path) xs
      → AllByRecursion (MayHave lists gives path) ys → entries_of xs ≡ entries_of ys → xs ≡ ys
  same_items path [] [] a b e = refl
  same_items path [] (y ∷ ys) a b e = absurd (cc e)
  same_items path (x ∷ xs) [] a b e = absurd (cc e)
  same_items path (x ∷ xs) (y ∷ ys) a b e =
      ap (λ z. z ∷ xs) (same_item path x y a.0 b.0 (ap (first_or (entry_of x)) e))
      ∙ ap (λ l. y ∷ l) (same_items path xs ys a.1 b.1 (ap rest_of e))

  -- a directory has one list of items
  pub same_list : (path : List ℕ) (x y : Items) → MayList lists gives path x → MayList lists gives path y → x ≡ y
  same_list path (Ok xs) (Ok ys) a b =
      ap Ok (same_items path xs ys a.1 b.1 (ap (entries_or []) (one.listing path (Ok (entries_of xs)) (Ok (entries_of ys)) a.0 b.0)))
  same_list path (Ok xs) (Err v) a b = absurd (differ (ap is_listed (one.listing path (Ok (entries_of xs)) (Err b.0) a.0 b.2)))
  same_list path (Err w) (Ok ys) a b = absurd (differ (sym (ap is_listed (one.listing path (Err a.0) (Ok (entries_of ys)) a.2 b.0))))
  same_list path (Err w) (Err v) a b =
      let same : Some w ≡ Some v = sym a.1 ∙ ap (word_or None) (one.listing path (Err a.0) (Err b.0) a.2 b.2) ∙ b.1 in
      let word : w ≡ v = cc same in ap Err word

  module _ (s : FiltersModel) (j : JobModel) (a b : Answers) (may : MayAnswer lists gives j.path a)
      (also : MayAnswer lists gives j.path b) where
    -- two answers for one directory have the same listing
    pub here : a.here ≡ b.here
    here = same_list j.path a.here b.here may.here also.here

    -- what stands in `.git/info`, where `.git` has it
    same_listed : (there : Bool) → (there ≡ true → a.info ≡ b.info)
        → listing there (codes ".git/info") a.info ≡ listing there (codes ".git/info") b.info
    same_listed false e = refl
    same_listed true e = ap (listing true (codes ".git/info")) (e refl)

    same_after : (g : Items) → (has_directory (codes "info") (items_of g) ≡ true → a.info ≡ b.info) →
        and_then (listing true (codes ".git") g) (λ in_git. listing (has_directory (codes "info") in_git) (codes ".git/info") a.info)
        ≡ and_then (listing true (codes ".git") g) (λ in_git. listing (has_directory (codes "info") in_git) (codes ".git/info") b.info)
    same_after (Ok items) e = same_listed (has_directory (codes "info") items) e
    same_after (Err word) e = refl

    same_info : (there : Bool) → (there ≡ true → has_git j.path (items_of a.here) ≡ true) → info_items there a ≡ info_items there b
    same_info false e = refl
    same_info true e =
        let git : a.git ≡ b.git = same_list (codes ".git") a.git b.git (may.git (e refl))
        (also.git (ap (λ (l : Items). has_git j.path (items_of l)) (sym here) ∙ e refl)) in
        same_after a.git (λ inside. same_list (codes ".git/info") a.info b.info (may.info (e refl) inside)
        (also.info (ap (λ (l : Items). has_git j.path (items_of l)) (sym here) ∙ e refl)
        (ap (λ (l : Items). has_directory (codes "info") (items_of l)) (sym git) ∙ inside)))
        ∙ ap (λ (g : Items). and_then (listing true (codes ".git") g)
        (λ in_git. listing (has_directory (codes "info") in_git) (codes ".git/info") b.info)) git

    -- and the same rules
    pub same_rules : (items : List Item) → a.here ≡ Ok items → rule_bytes j.ignore.no_ignore j.path items a
        ≡ rule_bytes j.ignore.no_ignore j.path items b
    same_rules items e =
        ap (λ r. and_then (and_then r (info_bytes j.ignore.no_ignore))
        (λ i. and_then (own_bytes j.ignore.no_ignore j.path items) (λ o. Ok (record { info = i; own = o }))))
        (same_info (has_git j.path items) (λ t. ap (λ (l : Items). has_git j.path (items_of l)) e ∙ t))

    same_level_of : (o : Items) → a.here ≡ o → level_of s j a o ≡ level_of s j b o
    same_level_of (Ok items) e = ap (level_after s j items) (same_rules items e)
    same_level_of (Err word) e = refl

    -- so the directory has one level
    pub one_level : level s j a ≡ level s j b
    one_level = same_level_of a.here refl ∙ ap (level_of s j b) here

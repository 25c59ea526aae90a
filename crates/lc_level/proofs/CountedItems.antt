-- The items of a directory, with what counting gave of those that take part and are left in.
use Rattle.std.proofs.Common.{◌≡◌, ℕ, Bool, true, false, ◌&&◌, ◌||◌, cond, List, [], ◌∷◌, ◌++◌, length, refl, sym, ◌∙◌, ap, subst, Some}
use Rattle.std.proofs.Common.{Result, suc, if◌then◌else◌, bytes_eq}
use Rattle.std.specs.List.{filter, flat_map, AllByRecursion}
use Rattle.lc_census.specs.declared.line_count.Count.{Count}
use Rattle.lc_glob.specs.Path.{path_in}
use Rattle.lc_level.specs.{Answers.{Item, file_item, directory_item, other_item, entry_of, entries_of}, CountedNames.AreCounted}
use Rattle.lc_level.specs.{CountedNames.file_fates, Job.JobModel, Classified.{kept_file, kept_directory, skipped_entry}, Level.Fate}
use Rattle.lc_level.specs.{Level.{is_counted, file_fate, fates_of, counted_of, failed_of, counted_in, failed_in}, Filters.FiltersModel}
use Rattle.lc_level.specs.{RuleFiles.{file_named, has_directory}, TreeAnswers.MayHave, FileReads.MayCount}
use Rattle.lc_level.specs.declared.fault_word.FaultWord.{FaultWord}
use Rattle.lc_tree.specs.{Listing.EntryModel, declared.entry.Kind.TheVariants.{File, Dir, Other}, Trees.{Listings, Contents}}
use Rattle.lc_level.proofs.Fates.{counted_by, fault_by, files_by, faults_by, children_by, skipped_by_item}

abbrev pub Results : Type 0
Results = List (Result Count FaultWord)

-- the next result, where the rules leave the file in
abbrev pub result_next : Bool → Result Count FaultWord → Results → Result Count FaultWord
result_next false c rs = c
result_next true c [] = c
result_next true c (r ∷ rs) = r

abbrev pub results_after : Bool → Results → Results
results_after false rs = rs
results_after true [] = []
results_after true (r ∷ rs) = rs

-- the items that take part
abbrev pub taking_part : (EntryModel → Bool) → List Item → List Item
taking_part t items = filter (λ item. t (entry_of item)) items

module _ (s : FiltersModel) (k : JobModel) (t : EntryModel → Bool) where
  -- whether a file is counted: it takes part and is left in
  abbrev pub counts : List ℕ → Bool
  counts n = t (record { name = n; kind = File }) && is_counted s k n

  -- the items, with these results of the files that are counted, in order
  abbrev pub counted_items : List Item → Results → List Item
  counted_items [] rs = []
  counted_items (file_item n c rules ∷ items) rs =
      file_item n (result_next (counts n) c rs) rules ∷ counted_items items (results_after (counts n) rs)
  counted_items (directory_item n ∷ items) rs = directory_item n ∷ counted_items items rs
  counted_items (other_item n what ∷ items) rs = other_item n what ∷ counted_items items rs

  -- nothing but what the files gave has changed
  pub same_entries : (items : List Item) (rs : Results) → entries_of (counted_items items rs) ≡ entries_of items
  same_entries [] rs = refl
  same_entries (file_item n c rules ∷ items) rs =
      ap (λ l. entry_of (file_item n c rules) ∷ l) (same_entries items (results_after (counts n) rs))
  same_entries (directory_item n ∷ items) rs = ap (λ l. entry_of (directory_item n) ∷ l) (same_entries items rs)
  same_entries (other_item n what ∷ items) rs = ap (λ l. entry_of (other_item n what) ∷ l) (same_entries items rs)

  -- what a file reads as in rules is the same, whatever counting gave
  pub same_file : (name : List ℕ) (items : List Item) (rs : Results) → file_named name (counted_items items rs) ≡ file_named name items
  same_file name [] rs = refl
  same_file name (file_item n c rules ∷ items) rs =
      ap (λ o. cond (bytes_eq n name) (Some rules) o) (same_file name items (results_after (counts n) rs))
  same_file name (directory_item n ∷ items) rs = same_file name items rs
  same_file name (other_item n what ∷ items) rs = same_file name items rs

  -- so are the directories
  pub same_directory : (name : List ℕ) (items : List Item) (rs : Results)
      → has_directory name (counted_items items rs) ≡ has_directory name items
  same_directory name [] rs = refl
  same_directory name (file_item n c rules ∷ items) rs = same_directory name items (results_after (counts n) rs)
  same_directory name (directory_item n ∷ items) rs = ap (λ b. bytes_eq n name || b) (same_directory name items rs)
  same_directory name (other_item n what ∷ items) rs = same_directory name items rs

  -- the names of the files that are counted
  abbrev pub kept_names : List Item → List (List ℕ)
  kept_names items = flat_map (kept_file s k) (entries_of (taking_part t items))

  -- one file more, by whether it takes part and whether it is left in
  names_one : (n : List ℕ) (c : Result Count FaultWord) (rules : Result (List ℕ) FaultWord) (items : List Item)
      → kept_names (file_item n c rules ∷ items) ≡ cond (counts n) (n ∷ []) [] ++ kept_names items
  names_one n c rules items = at (t (record { name = n; kind = File }))
    where
      at : (b : Bool) → flat_map (kept_file s k) (entries_of (cond b (file_item n c rules ∷ taking_part t items) (taking_part t items)))
          ≡ cond (b && is_counted s k n) (n ∷ []) [] ++ kept_names items
      at true = refl
      at false = refl

  -- what is no file has no such name
  names_none : (item : Item) (items : List Item) → kept_file s k (entry_of item) ≡ [] → kept_names (item ∷ items) ≡ kept_names items
  names_none item items none = at (t (entry_of item))
    where
      at : (b : Bool) → flat_map (kept_file s k) (entries_of (cond b (item ∷ taking_part t items) (taking_part t items))) ≡ kept_names items
      at true = ap (λ l. l ++ kept_names items) none
      at false = refl

  -- one file more, by whether it is counted
  counted_one : (gives : List ℕ → Contents) (n : List ℕ) (c : Result Count FaultWord) (names : List (List ℕ)) (b : Bool) (rs : Results)
      → AreCounted gives k (cond b (n ∷ []) [] ++ names) rs →
      AreCounted gives k names (results_after b rs)
  counted_one gives n c names false rs a = a
  counted_one gives n c names true [] a = absurd a
  counted_one gives n c names true (r ∷ rs) a = a.1

  may_one : (gives : List ℕ → Contents) (n : List ℕ) (c : Result Count FaultWord) (names : List (List ℕ)) (b : Bool) (rs : Results)
      → AreCounted gives k (cond b (n ∷ []) [] ++ names) rs →
      MayCount (gives (path_in k.path n)) c → MayCount (gives (path_in k.path n)) (result_next b c rs)
  may_one gives n c names false rs a m = m
  may_one gives n c names true [] a m = m
  may_one gives n c names true (r ∷ rs) a m = a.0

  -- a tree that may have the items may have them with these results
  pub may_counted : (lists : List ℕ → Listings) (gives : List ℕ → Contents) (items : List Item) (rs : Results)
      → AreCounted gives k (kept_names items) rs →
      AllByRecursion (MayHave lists gives k.path) items → AllByRecursion (MayHave lists gives k.path) (counted_items items rs)
  may_counted lists gives [] rs a m = tt
  may_counted lists gives (file_item n c rules ∷ items) rs a m =
      let b : AreCounted gives k (cond (counts n) (n ∷ []) [] ++ kept_names items) rs = subst
      (λ (ns : List (List ℕ)). AreCounted gives k ns rs) (names_one n c rules items) a in (
        (may_one gives n c (kept_names items) (counts n) rs b m.0.0, m.0.1),
        may_counted lists gives items (results_after (counts n) rs)
            (counted_one gives n c (kept_names items) (counts n) rs b) m.1,
      )
  may_counted lists gives (directory_item n ∷ items) rs a m =
      let b : AreCounted gives k (kept_names items) rs = subst
      (λ (ns : List (List ℕ)). AreCounted gives k ns rs) (names_none (directory_item n) items refl) a in
      (m.0, may_counted lists gives items rs b m.1)
  may_counted lists gives (other_item n what ∷ items) rs a m =
      let b : AreCounted gives k (kept_names items) rs = subst
      (λ (ns : List (List ℕ)). AreCounted gives k ns rs) (names_none (other_item n what) items refl) a in
      (m.0, may_counted lists gives items rs b m.1)

abbrev pub all_take_part : EntryModel → Bool
all_take_part e = true

module _ (s : FiltersModel) (k : JobModel) (t : EntryModel → Bool) where
  -- what takes part has these results, as if there were nothing else
  pub part_counted : (items : List Item) (rs : Results)
      → taking_part t (counted_items s k t items rs) ≡ counted_items s k all_take_part (taking_part t items) rs
  part_counted [] rs = refl
  part_counted (file_item n c rules ∷ items) rs =
      at (t (record { name = n; kind = File })) refl (λ rest. part_counted items rest)
    where
      at : (b : Bool) → t (record { name = n; kind = File }) ≡ b
          → ((rest : Results)
          → taking_part t (counted_items s k t items rest) ≡ counted_items s k all_take_part (taking_part t items) rest) →
          cond b
          (file_item n (result_next (counts s k t n) c rs) rules
          ∷ taking_part t (counted_items s k t items (results_after (counts s k t n) rs)))
          (taking_part t (counted_items s k t items (results_after (counts s k t n) rs)))
          ≡ counted_items s k all_take_part (cond b (file_item n c rules ∷ taking_part t items) (taking_part t items)) rs
      at true e more =
          ap (λ b. file_item n (result_next (b && is_counted s k n) c rs) rules
          ∷ taking_part t (counted_items s k t items (results_after (b && is_counted s k n) rs))) e
          ∙ ap (λ l. file_item n (result_next (is_counted s k n) c rs) rules ∷ l)
          (more (results_after (is_counted s k n) rs))
      at false e more =
          ap (λ b. taking_part t (counted_items s k t items (results_after (b && is_counted s k n) rs))) e
          ∙ more rs
  part_counted (directory_item n ∷ items) rs = at (t (record { name = n; kind = Dir })) (part_counted items rs)
    where
      at : (b : Bool) → taking_part t (counted_items s k t items rs) ≡ counted_items s k all_take_part (taking_part t items) rs
          → cond b (directory_item n ∷ taking_part t (counted_items s k t items rs)) (taking_part t (counted_items s k t items rs))
          ≡ counted_items s k all_take_part (cond b (directory_item n ∷ taking_part t items) (taking_part t items)) rs
      at true more = ap (λ l. directory_item n ∷ l) more
      at false more = more
  part_counted (other_item n what ∷ items) rs = at (t (record { name = n; kind = Other what })) (part_counted items rs)
    where
      at : (b : Bool) → taking_part t (counted_items s k t items rs) ≡ counted_items s k all_take_part (taking_part t items) rs
          → cond b (other_item n what ∷ taking_part t (counted_items s k t items rs)) (taking_part t (counted_items s k t items rs))
          ≡ counted_items s k all_take_part (cond b (other_item n what ∷ taking_part t items) (taking_part t items)) rs
      at true more = ap (λ l. other_item n what ∷ l) more
      at false more = more

module _ (s : FiltersModel) (k : JobModel) where
  abbrev pub counted_all : List Item → Results → List Item
  counted_all items rs = counted_items s k all_take_part items rs

  -- what the items give is the same, whatever counting gave
  pub same_children : (items : List Item) (rs : Results)
      → flat_map (children_by s k) (counted_all items rs) ≡ flat_map (children_by s k) items
  same_children [] rs = refl
  same_children (file_item n c rules ∷ items) rs = same_children items (results_after (is_counted s k n) rs)
  same_children (directory_item n ∷ items) rs = ap (λ l. children_by s k (directory_item n) ++ l) (same_children items rs)
  same_children (other_item n what ∷ items) rs = same_children items rs

  -- and what is left out
  pub same_skipped : (items : List Item) (rs : Results)
      → flat_map (skipped_by_item s k) (counted_all items rs) ≡ flat_map (skipped_by_item s k) items
  same_skipped [] rs = refl
  same_skipped (file_item n c rules ∷ items) rs =
      ap (λ l. skipped_by_item s k (file_item n c rules) ++ l) (same_skipped items (results_after (is_counted s k n) rs))
  same_skipped (directory_item n ∷ items) rs = ap (λ l. skipped_by_item s k (directory_item n) ++ l) (same_skipped items rs)
  same_skipped (other_item n what ∷ items) rs = ap (λ l. skipped_by_item s k (other_item n what) ++ l) (same_skipped items rs)

  -- there are as many
  pub same_number : (items : List Item) (rs : Results) → length (counted_all items rs) ≡ length items
  same_number [] rs = refl
  same_number (file_item n c rules ∷ items) rs = ap suc (same_number items (results_after (is_counted s k n) rs))
  same_number (directory_item n ∷ items) rs = ap suc (same_number items rs)
  same_number (other_item n what ∷ items) rs = ap suc (same_number items rs)

  -- each item has one fate
  pub number_of_fates : (items : List Item) → length (fates_of s k items) ≡ length items
  number_of_fates [] = refl
  number_of_fates (item ∷ items) = ap suc (number_of_fates items)

  abbrev pub names_in : List Item → List (List ℕ)
  names_in items = flat_map (kept_file s k) (entries_of items)

  -- what the fates of the files that are left in hold, one file more
  fates_one : {A : Type 0} (f : List ℕ × Fate → List A) (gives : List ℕ → Contents) (n : List ℕ) (c : Result Count FaultWord)
      (names : List (List ℕ)) (t : Bool) (rs : Results) → AreCounted gives k (cond t (n ∷ []) [] ++ names) rs
      → flat_map f (file_fates s k (cond t (n ∷ []) [] ++ names) rs)
      ≡ cond t (f (n, file_fate s k n (result_next t c rs))) [] ++ flat_map f (file_fates s k names (results_after t rs))
  fates_one f gives n c names false rs a = refl
  fates_one f gives n c names true [] a = absurd a
  fates_one f gives n c names true (r ∷ rs) a = refl

  -- the counted files of the items are those of the names that were kept
  pub files_of_items : (gives : List ℕ → Contents) (items : List Item) (rs : Results) → AreCounted gives k (names_in items) rs →
      flat_map (files_by s k) (counted_all items rs) ≡ counted_in (file_fates s k (names_in items) rs)
  files_of_items gives [] rs a = refl
  files_of_items gives (file_item n c rules ∷ items) rs a =
      let t = is_counted s k n in
      ap (λ l. cond t (counted_by s k n (result_next t c rs)) [] ++ l)
      (files_of_items gives items (results_after t rs) (counted_one s k all_take_part gives n c (names_in items) t rs a))
      ∙ sym (fates_one counted_of gives n c (names_in items) t rs a)
  files_of_items gives (directory_item n ∷ items) rs a = files_of_items gives items rs a
  files_of_items gives (other_item n what ∷ items) rs a = files_of_items gives items rs a

  -- and so are the faults
  pub faults_of_items : (gives : List ℕ → Contents) (items : List Item) (rs : Results) → AreCounted gives k (names_in items) rs →
      flat_map (faults_by s k) (counted_all items rs) ≡ failed_in (file_fates s k (names_in items) rs)
  faults_of_items gives [] rs a = refl
  faults_of_items gives (file_item n c rules ∷ items) rs a =
      let t = is_counted s k n in
      ap (λ l. cond t (fault_by s k n (result_next t c rs)) [] ++ l)
      (faults_of_items gives items (results_after t rs) (counted_one s k all_take_part gives n c (names_in items) t rs a))
      ∙ sym (fates_one failed_of gives n c (names_in items) t rs a)
  faults_of_items gives (directory_item n ∷ items) rs a = faults_of_items gives items rs a
  faults_of_items gives (other_item n what ∷ items) rs a = faults_of_items gives items rs a

  -- the child directories are those that are left in
  pub children_of_items : (items : List Item) → flat_map (children_by s k) items ≡ flat_map (kept_directory s k) (entries_of items)
  children_of_items [] = refl
  children_of_items (file_item n c rules ∷ items) = children_of_items items
  children_of_items (directory_item n ∷ items) = ap (λ l. kept_directory s k (entry_of (directory_item n)) ++ l) (children_of_items items)
  children_of_items (other_item n what ∷ items) = children_of_items items

  nothing_skipped : (items : List Item) → flat_map (skipped_entry false s k) (entries_of items) ≡ []
  nothing_skipped [] = refl
  nothing_skipped (item ∷ items) = nothing_skipped items

  all_left : (items : List Item) → flat_map (skipped_by_item s k) items ≡ flat_map (skipped_entry true s k) (entries_of items)
  all_left [] = refl
  all_left (item ∷ items) = ap (λ l. skipped_by_item s k item ++ l) (all_left items)

  -- the entries that are left out are kept where they are asked for
  pub skipped_of_items : (left_out : Bool) (items : List Item)
      → (if left_out then flat_map (skipped_by_item s k) items else []) ≡ flat_map (skipped_entry left_out s k) (entries_of items)
  skipped_of_items true items = all_left items
  skipped_of_items false items = sym (nothing_skipped items)

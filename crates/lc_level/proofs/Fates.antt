-- What the fates of a directory's items hold, item by item.
use Rattle.std.proofs.Common.{◌≡◌, ℕ, true, false, cond, List, [], ◌∷◌, ◌++◌, refl, ◌∙◌, ap, Option, Some, None, Result, Ok, Err}
use Rattle.std.specs.{List.flat_map, Option.{is_none, option_map_or, option_or}}
use Rattle.lc_census.specs.declared.line_count.Count.{Count}
use Rattle.lc_level.specs.{Answers.{Item, file_item, directory_item, other_item, name_of, entry_of}, Job.JobModel, Level.FileLineModel}
use Rattle.lc_level.specs.Level.{Reason, other_kind, SkippedLineModel, Fate, walked, skipped, reason_of, file_reason, is_taken}
use Rattle.lc_level.specs.Level.{is_counted, child_job, file_fate, fate_of, fates_of, counted_of, failed_of, walked_of, skipped_of}
use Rattle.lc_level.specs.{Level.{counted_in, failed_in, walked_in, skipped_in}, Classified.{skipped_by, skipped_entry}}
use Rattle.lc_level.specs.{Filters.FiltersModel, declared.fault_word.FaultWord.FaultWord, FaultLines.FaultLineModel}
use Rattle.lc_tree.specs.declared.entry.Kind.{Kind, TheVariants.{File, Dir, Other}}

-- what a file that is not left out gives
abbrev pub counted_by : FiltersModel → JobModel → List ℕ → Result Count FaultWord → List FileLineModel
counted_by s j name count = counted_of (name, file_fate s j name count)

abbrev pub fault_by : FiltersModel → JobModel → List ℕ → Result Count FaultWord → List FaultLineModel
fault_by s j name count = failed_of (name, file_fate s j name count)

-- what an item gives
abbrev pub files_by : FiltersModel → JobModel → Item → List FileLineModel
files_by s j (file_item name count rules) = cond (is_counted s j name) (counted_by s j name count) []
files_by s j (directory_item name) = []
files_by s j (other_item name what) = []

abbrev pub faults_by : FiltersModel → JobModel → Item → List FaultLineModel
faults_by s j (file_item name count rules) = cond (is_counted s j name) (fault_by s j name count) []
faults_by s j (directory_item name) = []
faults_by s j (other_item name what) = []

abbrev pub children_by : FiltersModel → JobModel → Item → List (List ℕ × JobModel)
children_by s j (file_item name count rules) = []
children_by s j (directory_item name) = cond (is_taken s j name true) ((name, child_job j name) ∷ []) []
children_by s j (other_item name what) = []

-- what a kept entry gives, and nothing where it is left out
none_or : {A : Type 0} (f : List ℕ × Fate → List A) (name : List ℕ) (kind : Kind) (fate : Fate)
    → ((reason : Reason) → f (name, skipped kind reason) ≡ [])
    → (o : Option Reason) → f (name, option_map_or (skipped kind) o fate) ≡ cond (is_none o) (f (name, fate)) []
none_or f name kind fate none None = refl
none_or f name kind fate none (Some reason) = none reason

-- the same of what gives nothing in either case
nothing : {A : Type 0} (f : List ℕ × Fate → List A) (name : List ℕ) (kind : Kind) (fate : Fate)
    → ((reason : Reason) → f (name, skipped kind reason) ≡ [])
    → f (name, fate) ≡ [] → (o : Option Reason) → f (name, option_map_or (skipped kind) o fate) ≡ []
nothing f name kind fate none is None = is
nothing f name kind fate none is (Some reason) = none reason

abbrev pub skipped_by_item : FiltersModel → JobModel → Item → List SkippedLineModel
skipped_by_item s j item = skipped_entry true s j (entry_of item)

module _ (s : FiltersModel) (j : JobModel) where
  counted_one : (item : Item) → counted_of (name_of item, fate_of s j item) ≡ files_by s j item
  counted_one (file_item n r rules) = none_or counted_of n File (file_fate s j n r) (λ reason. refl) (file_reason s j n)
  counted_one (directory_item n) = nothing counted_of n Dir (walked (child_job j n)) (λ reason. refl) refl (reason_of s j n true)
  counted_one (other_item n what) =
      nothing counted_of n (Other what) (skipped (Other what) (other_kind what)) (λ reason. refl) refl (reason_of s j n false)

  failed_one : (item : Item) → failed_of (name_of item, fate_of s j item) ≡ faults_by s j item
  failed_one (file_item n r rules) = none_or failed_of n File (file_fate s j n r) (λ reason. refl) (file_reason s j n)
  failed_one (directory_item n) = nothing failed_of n Dir (walked (child_job j n)) (λ reason. refl) refl (reason_of s j n true)
  failed_one (other_item n what) =
      nothing failed_of n (Other what) (skipped (Other what) (other_kind what)) (λ reason. refl) refl (reason_of s j n false)

  -- counting a file leaves it in, and makes it no directory
  none_left : (n : List ℕ) (r : Result Count FaultWord) → skipped_of (n, file_fate s j n r) ≡ []
  none_left n (Ok count) = refl
  none_left n (Err word) = refl

  no_child : (n : List ℕ) (r : Result Count FaultWord) → walked_of (n, file_fate s j n r) ≡ []
  no_child n (Ok count) = refl
  no_child n (Err word) = refl

  walked_one : (item : Item) → walked_of (name_of item, fate_of s j item) ≡ children_by s j item
  walked_one (file_item n r rules) = nothing walked_of n File (file_fate s j n r) (λ reason. refl) (no_child n r) (file_reason s j n)
  walked_one (directory_item n) = none_or walked_of n Dir (walked (child_job j n)) (λ reason. refl) (reason_of s j n true)
  walked_one (other_item n what) =
      nothing walked_of n (Other what) (skipped (Other what) (other_kind what)) (λ reason. refl) refl (reason_of s j n false)

  -- what is left out is left for the reason that the entry has
  skipped_one : (item : Item) → skipped_of (name_of item, fate_of s j item) ≡ skipped_by_item s j item
  skipped_one (file_item n r rules) = at (file_reason s j n)
    where
      at : (o : Option Reason) → skipped_of (n, option_map_or (skipped File) o (file_fate s j n r)) ≡ skipped_by n File o
      at None = none_left n r
      at (Some reason) = refl
  skipped_one (directory_item n) = at (reason_of s j n true)
    where
      at : (o : Option Reason) → skipped_of (n, option_map_or (skipped Dir) o (walked (child_job j n))) ≡ skipped_by n Dir o
      at None = refl
      at (Some reason) = refl
  skipped_one (other_item n what) = at (reason_of s j n false)
    where
      at : (o : Option Reason)
          → skipped_of (n, option_map_or (skipped (Other what)) o (skipped (Other what) (other_kind what)))
          ≡ skipped_by n (Other what) (option_or o (Some (other_kind what)))
      at None = refl
      at (Some reason) = refl

  by_items : {A : Type 0} (f : List ℕ × Fate → List A) (g : Item → List A) → ((item : Item) → f (name_of item, fate_of s j item) ≡ g item)
      → (items : List Item) → flat_map f (fates_of s j items) ≡ flat_map g items
  by_items f g one [] = refl
  by_items f g one (e ∷ es) = ap (λ l. l ++ flat_map f (fates_of s j es)) (one e) ∙ ap (λ l. g e ++ l) (by_items f g one es)

  -- the counted files of the fates are those of the items
  pub counted_items_are : (items : List Item) → counted_in (fates_of s j items) ≡ flat_map (files_by s j) items
  counted_items_are items = by_items counted_of (files_by s j) counted_one items

  -- and so are the faults of files
  pub failed_items_are : (items : List Item) → failed_in (fates_of s j items) ≡ flat_map (faults_by s j) items
  failed_items_are items = by_items failed_of (faults_by s j) failed_one items

  -- and the child directories
  pub walked_items_are : (items : List Item) → walked_in (fates_of s j items) ≡ flat_map (children_by s j) items
  walked_items_are items = by_items walked_of (children_by s j) walked_one items

  -- and the entries left out
  pub skipped_items_are : (items : List Item) → skipped_in (fates_of s j items) ≡ flat_map (skipped_by_item s j) items
  skipped_items_are items = by_items skipped_of (skipped_by_item s j) skipped_one items

-- What a walk of some paths finds, by what the walk of the whole tree finds.
use Rattle.std.specs.{Prelude.{◌≡◌, ◌⊎◌, ℕ, ◌<◌, true, List, [], ◌∷◌, ◌++◌, length, Some, None}, List.{Contains, AllByRecursion}}
use Rattle.lc_glob.specs.{Bytes.slash, Path.{path_in, is_good_path}}
use Rattle.lc_level.specs.{Answers.Tree, Job.JobModel, Level.{FileLineModel, SkippedLineModel, faulted_level, level}, Filters.FiltersModel}
use Rattle.lc_level.specs.{Filters.narrowed, WellFormed.IsWellFormed, declared.fault_word.FaultWord.{FaultWord, TheVariants.Absent}}
use Rattle.lc_tree.specs.{Kinds.is_dir, declared.entry.Kind.Kind}
use Rattle.lc_walk.specs.{Found.{Found, found_file, found_fault, found_directory, found_skipped}, FoundAt.LeadsTo, GivenAnswers.HasListings}
use Rattle.lc_walk.specs.RecursiveWalk.{walk_of}

-- a path is below another
abbrev pub IsBelow : List ℕ → List ℕ → Type 0
IsBelow path other = (rest : List ℕ) × (path ≡ other ++ slash ∷ rest)

module _ (only : List (List ℕ)) where
  -- the path is one of the requested paths or below one
  abbrev pub IsWithin : List ℕ → Type 0
  IsWithin path = (asked : List ℕ) × Contains only asked × ((path ≡ asked) ⊎ IsBelow path asked)

  -- a requested path is below this path
  abbrev pub IsAbove : List ℕ → Type 0
  IsAbove path = (asked : List ℕ) × Contains only asked × IsBelow asked path

  -- the requested paths select this entry: it is at or below one of them, or is a directory above one
  abbrev pub EntryTakesPart : Kind → List ℕ → Type 0
  EntryTakesPart kind path = IsWithin path ⊎ ((is_dir kind ≡ true) × IsAbove path)

  -- a directory at this path is listed: the path is the top's, or is at, below or above a requested path
  abbrev pub IsOnWay : List ℕ → Type 0
  IsOnWay path = (path ≡ []) ⊎ (IsWithin path ⊎ IsAbove path)

-- the walk that found `xs` listed the directory at this path
abbrev pub ListsPath : List Found → List ℕ → Type 0
ListsPath xs path = (entries : ℕ) × Contains xs (found_directory path entries)

module _ (filters : FiltersModel) (only : List (List ℕ)) (depth : ℕ) (top : JobModel) (t : Tree) where
  -- what the walk of the whole tree finds, and what the walk of only these paths finds
  abbrev pub whole_walk : List Found
  whole_walk = walk_of (narrowed filters None) depth top t

  abbrev pub part_walk : List Found
  part_walk = walk_of (narrowed filters (Some only)) depth top t

  -- this error is about a directory on the way to the requested paths, or about one of its rule files
  pub record IsFaultOnWay (path : List ℕ) (word : FaultWord) : Type 0 where
    pub place : List (List ℕ)
    pub shallow : length place < depth
    pub job : JobModel
    pub leads : LeadsTo (narrowed filters None) top t place job
    pub on_way : IsOnWay only job.path
    pub fault : level (narrowed filters None) job (t place) ≡ faulted_level path word

  -- of what the walk of the whole tree finds, the part has exactly these: the counted files at or below the requested paths, the skipped
  -- entries that the paths select, the directories on the way, and the errors at or below the paths or about directories on the way. Each
  -- other error of the part is about a requested path that is absent
  pub record IsPartOfWalk (part : List Found) : Type 0 where
    pub file : (directory : List ℕ) (f : FileLineModel) → Contains part (found_file directory f) →
        Contains whole_walk (found_file directory f) × IsWithin only (path_in directory f.path)
    pub has_file : (directory : List ℕ) (f : FileLineModel) → Contains whole_walk (found_file directory f) →
        IsWithin only (path_in directory f.path) → Contains part (found_file directory f)
    pub skipped : (directory : List ℕ) (l : SkippedLineModel) → Contains part (found_skipped directory l) →
        Contains whole_walk (found_skipped directory l) × EntryTakesPart only l.kind (path_in directory l.path)
    pub has_skipped : (directory : List ℕ) (l : SkippedLineModel) → Contains whole_walk (found_skipped directory l) →
        EntryTakesPart only l.kind (path_in directory l.path) → Contains part (found_skipped directory l)
    pub directory : (path : List ℕ) → ListsPath part path → ListsPath whole_walk path × IsOnWay only path
    pub has_directory : (path : List ℕ) → ListsPath whole_walk path → IsOnWay only path → ListsPath part path
    pub fault : (path : List ℕ) (word : FaultWord) → Contains part (found_fault path word) →
        (Contains whole_walk (found_fault path word) × (IsWithin only path ⊎ IsFaultOnWay path word))
        ⊎ ((word ≡ Absent) × Contains only path)
    pub has_fault : (path : List ℕ) (word : FaultWord) → Contains whole_walk (found_fault path word) →
        IsWithin only path ⊎ IsFaultOnWay path word → Contains part (found_fault path word)

  -- wherever the walk of the whole tree `t` and the walk of these paths in the tree `u` read the same directory, both trees' answers make
  -- one level for the walk of these paths. The answers may differ in what this walk doesn't read, such as a skipped file
  abbrev pub AnswerAlike : Tree → Type 0
  AnswerAlike u =
      (place : List (List ℕ)) (k : JobModel) → LeadsTo (narrowed filters None) top t place k
      → LeadsTo (narrowed filters (Some only)) top u place k
      → level (narrowed filters (Some only)) k (u place) ≡ level (narrowed filters (Some only)) k (t place)

-- the walk of some paths in `u` finds its part of what the walk of the whole tree `t` finds, if their answers are alike
abbrev pub TwoWalksLaw : Type 0
TwoWalksLaw =
    (filters : FiltersModel) (only : List (List ℕ)) → AllByRecursion (λ path. is_good_path path ≡ true) only →
    (depth : ℕ) (top : JobModel) (t u : Tree) → top.path ≡ [] → HasListings (narrowed filters None) top t →
    AnswerAlike filters only depth top t u → IsPartOfWalk filters only depth top t (part_walk filters only depth top u)

-- the walk of some paths finds its part of what the walk of the whole tree finds, in each tree with well-formed listings
abbrev pub PartOfWalkLaw : Type 0
PartOfWalkLaw =
    (filters : FiltersModel) (only : List (List ℕ)) → AllByRecursion (λ path. is_good_path path ≡ true) only →
    (depth : ℕ) (top : JobModel) (t : Tree) → top.path ≡ [] → ((place : List (List ℕ)) → IsWellFormed (t place)) →
    IsPartOfWalk filters only depth top t (part_walk filters only depth top t)

-- The errors and the skipped entries of a walk of included files, by those of the walk of all files.
use Rattle.std.specs.{Prelude.{◌≡◌, ◌⊎◌, ◌<◌, ℕ, Bool, true, false, List, length, Option, None, option_map, ⊤}, List.Contains}
use Rattle.lc_glob.specs.Path.{path_in}
use Rattle.lc_level.specs.{Answers.Tree, Job.JobModel, Filters.{FiltersModel, including, is_included, patterns_for}, Level.Fate}
use Rattle.lc_level.specs.Level.{SkippedLineModel, counted, failed, walked, skipped, faulted_level, level, not_included}
use Rattle.lc_level.specs.declared.fault_word.FaultWord.{FaultWord, TheVariants.Absent}
use Rattle.lc_rules.specs.IgnoreRules.{rules_of}
use Rattle.lc_tree.specs.declared.entry.Kind.TheVariants.{File}
use Rattle.lc_walk.specs.{Found.{found_fault, found_skipped}, FoundAt.{HasAbsent, HasEntry, LeadsTo}, RecursiveWalk.walk_of}

-- whether patterns include a file of a directory
abbrev pub includes : Option (List ℕ) → List ℕ → List ℕ → Bool
includes patterns directory name =
    is_included (patterns_for (option_map rules_of patterns) directory) (path_in directory name)

-- a file with this fate is read: it is counted, or could not be read
abbrev pub IsRead : Fate → Type 0
IsRead (counted f) = ⊤
IsRead (failed word) = ⊤
IsRead (walked job) = ⊥
IsRead (skipped kind reason) = ⊥

-- a directory that the walk enters: these names lead to it, and they are fewer than the walk is deep
pub record IsEntered (filters : FiltersModel) (depth : ℕ) (top : JobModel) (t : Tree) (job : JobModel) (place : List (List ℕ))
    : Type 0 where
  pub shallow : length place < depth
  pub leads : LeadsTo filters top t place job

module _ (filters : FiltersModel) (patterns : Option (List ℕ)) (depth : ℕ) (top : JobModel) (t : Tree) where
  -- the filters of the walk of all files, and those of the walk of included files
  abbrev pub whole : FiltersModel
  whole = including filters None

  abbrev pub part : FiltersModel
  part = including filters patterns

  -- an error of a directory itself or of a rule file, or of a path that was asked for and is absent
  pub record IsDirectoryFault (path : List ℕ) (word : FaultWord) : Type 0 where
    pub place : List (List ℕ)
    pub job : JobModel
    pub entered : IsEntered whole depth top t job place
    pub fault : (level whole job (t place) ≡ faulted_level path word)
        ⊎ ((rest : List ℕ) × (path ≡ path_in job.path rest) × (word ≡ Absent) × HasAbsent whole job (t place) rest)

  -- an error of a file that is included
  pub record IsIncludedFault (path : List ℕ) (word : FaultWord) : Type 0 where
    pub place : List (List ℕ)
    pub job : JobModel
    pub entered : IsEntered whole depth top t job place
    pub name : List ℕ
    pub path_is : path ≡ path_in job.path name
    pub fault : HasEntry whole job (t place) name (failed word)
    pub included : includes patterns job.path name ≡ true

  -- a file that the walk of all files reads, and that is not included
  pub record IsUnincluded (directory : List ℕ) (l : SkippedLineModel) : Type 0 where
    pub kind : l.kind ≡ File
    pub reason : l.reason ≡ not_included
    pub place : List (List ℕ)
    pub job : JobModel
    pub entered : IsEntered whole depth top t job place
    pub directory_is : directory ≡ job.path
    pub fate : Fate
    pub read : IsRead fate
    pub entry : HasEntry whole job (t place) l.path fate
    pub not_among : includes patterns directory l.path ≡ false

  -- the errors are those of directories and of included files; what is skipped is what the walk of all files skips, for the same
  -- reason, and the files that are not included
  pub record AreIncludedEntries : Type 0 where
    pub faults : (path : List ℕ) (word : FaultWord)
        → (Contains (walk_of part depth top t) (found_fault path word) → IsDirectoryFault path word ⊎ IsIncludedFault path word)
        × (IsDirectoryFault path word ⊎ IsIncludedFault path word → Contains (walk_of part depth top t) (found_fault path word))
    pub skipped : (directory : List ℕ) (l : SkippedLineModel)
        → (Contains (walk_of part depth top t) (found_skipped directory l)
        → Contains (walk_of whole depth top t) (found_skipped directory l) ⊎ IsUnincluded directory l)
        × (Contains (walk_of whole depth top t) (found_skipped directory l) ⊎ IsUnincluded directory l
        → Contains (walk_of part depth top t) (found_skipped directory l))

-- `AreIncludedEntries` is true of each walk
abbrev pub IncludedEntriesLaw : Type 0
IncludedEntriesLaw =
    (filters : FiltersModel) (patterns : Option (List ℕ)) (depth : ℕ) (top : JobModel) (t : Tree)
    → AreIncludedEntries filters patterns depth top t

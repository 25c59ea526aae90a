-- What counting the files of a directory gives.
use Rattle.std.specs.{Prelude.{◌≡◌, ℕ, List, [], ◌∷◌, ◌++◌, Result, Ok, Err}, declared.alloc.AllocError.AllocError}
use Rattle.lc_census.specs.declared.line_count.Count.{Count}
use Rattle.lc_glob.specs.Path.{path_in}
use Rattle.lc_level.specs.{Filters.FiltersModel, Job.JobModel, Level.{Fate, file_fate, counted_of, failed_of, counted_in, failed_in}}
use Rattle.lc_level.specs.FileReads.{MayCount}
use Rattle.lc_level.specs.{declared.{counting.CountedFiles.CountedFiles, fault_word.FaultWord.FaultWord}, FaultLines.FaultLineModel}
use Rattle.lc_tree.specs.Trees.{Contents}

-- counting the file of each name may have given the result at the same place
abbrev pub AreCounted : (List ℕ → Contents) → JobModel → List (List ℕ) → List (Result Count FaultWord) → Type 0
AreCounted gives j [] [] = Unit {0}
AreCounted gives j [] (r ∷ rs) = ⊥
AreCounted gives j (n ∷ ns) [] = ⊥
AreCounted gives j (n ∷ ns) (r ∷ rs) = MayCount (gives (path_in j.path n)) r × AreCounted gives j ns rs

-- the fates of these files by these results
abbrev pub file_fates : FiltersModel → JobModel → List (List ℕ) → List (Result Count FaultWord) → List (List ℕ × Fate)
file_fates f j [] rs = []
file_fates f j (n ∷ ns) [] = []
file_fates f j (n ∷ ns) (r ∷ rs) = (n, file_fate f j n r) ∷ file_fates f j ns rs

-- what was found is the counted files of these names, and the errors of absent paths, followed by those of the files
pub record IsCounted (gives : List ℕ → Contents) (f : FiltersModel) (j : JobModel) (names : List (List ℕ)) (absent : List FaultLineModel)
    (found : CountedFiles) : Type 0 where
  pub results : List (Result Count FaultWord)
  pub may : AreCounted gives j names results
  pub files : found.files.items ≡ counted_in (file_fates f j names results)
  pub faults : found.faults.items ≡ absent ++ failed_in (file_fates f j names results)

-- the result of counting one more file
abbrev pub AddsCounted : (List ℕ → Contents) → FiltersModel → JobModel → List ℕ → CountedFiles → CountedFiles
    → Result (Unit {0}) AllocError → Type 0
AddsCounted gives f j name old new (Ok _) =
    (r : Result Count FaultWord) × MayCount (gives (path_in j.path name)) r
    × (new.files.items ≡ old.files.items ++ counted_of (name, file_fate f j name r))
    × (new.faults.items ≡ old.faults.items ++ failed_of (name, file_fate f j name r))
AddsCounted gives f j name old new (Err _) = Unit {0}

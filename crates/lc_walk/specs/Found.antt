-- What a walk finds.
use Rattle.std.specs.{Prelude.{ℕ, List, [], ◌∷◌, ◌++◌, length, map}, List.flat_map}
use Rattle.lc_level.specs.{declared.fault_word.FaultWord.{FaultWord, TheVariants.Absent}, Answers.Answers, Job.JobModel}
use Rattle.lc_level.specs.Level.{FileLineModel, SkippedLineModel, Fate, counted, failed, walked, skipped, Level, faulted_level}
use Rattle.lc_level.specs.{Level.{listed_level, level, walked_in}, Filters.FiltersModel}
use Rattle.lc_glob.specs.Path.{path_in}

-- a counted file of the directory at a path; an error at a path; a listed directory at a path, with the number of its selected entries; a
-- skipped entry of the directory at a path
pub data Found : Type 0 where
  found_file : (directory : List ℕ) → FileLineModel → Found
  found_fault : (path : List ℕ) → FaultWord → Found
  found_directory : (path : List ℕ) → (entries : ℕ) → Found
  found_skipped : (directory : List ℕ) → SkippedLineModel → Found

-- what an entry with this fate adds to what was found in the directory at a path. A child directory adds nothing here, since its own level
-- has what it contributes
abbrev pub found_by : List ℕ → List ℕ × Fate → List Found
found_by directory (name, counted file) = found_file directory file ∷ []
found_by directory (name, failed word) = found_fault (path_in directory name) word ∷ []
found_by directory (name, walked job) = []
found_by directory (name, skipped kind reason) = found_skipped directory (record { path = name; kind = kind; reason = reason }) ∷ []

-- the path of what was found
abbrev pub path_of : Found → List ℕ
path_of (found_file directory f) = path_in directory f.path
path_of (found_fault path word) = path
path_of (found_directory path entries) = path
path_of (found_skipped directory l) = path_in directory l.path

-- the error of a requested path that is absent; `rest` is the path relative to the directory
abbrev pub found_absent : List ℕ → List ℕ → Found
found_absent directory rest = found_fault (path_in directory rest) Absent

abbrev pub found_of : JobModel → Level → List Found
found_of j (faulted_level path word) = found_fault path word ∷ []
found_of j (listed_level fates absent) =
    map (found_absent j.path) absent ++ found_directory j.path (length fates) ∷ flat_map (found_by j.path) fates

abbrev pub children_of : Level → List (List ℕ × JobModel)
children_of (faulted_level path word) = []
children_of (listed_level fates absent) = walked_in fates

-- what a directory with these answers contributes
abbrev pub found_at : FiltersModel → JobModel → Answers → List Found
found_at filters j a = found_of j (level filters j a)

abbrev pub children_at : FiltersModel → JobModel → Answers → List (List ℕ × JobModel)
children_at filters j a = children_of (level filters j a)

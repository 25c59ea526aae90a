-- What counting the files of a directory in parts gives.
use Rattle.std.specs.{Prelude.{◌≡◌, ℕ, ◌<◌, List, ◌++◌, [], length, slice_index_or, Result, Ok, Err, IfOk, IsOk, Vec}, Global.Global}
use Rattle.std.specs.{List.{flat_map, AllByRecursion}, declared.alloc.AllocError.AllocError}
use Rattle.lc_level.specs.{CountedNames.IsCounted, Filters.FiltersModel, Job.JobModel, Classified.bytes_of, Level.FileLineModel}
use Rattle.lc_level.specs.{declared.counting.CountedFiles.CountedFiles, FaultLines.FaultLineModel}
use Rattle.lc_tree.specs.Trees.{Contents}

-- each part has counted the files of the run at the same place, or an allocation failed in the part
abbrev pub HaveCounted : (List ℕ → Contents) → FiltersModel → JobModel → List (Vec (Vec ℕ Global) Global)
    → List (Result CountedFiles AllocError) → Type 0
HaveCounted gives f j runs parts = (i : ℕ) (run : Vec (Vec ℕ Global) Global) (part : Result CountedFiles AllocError) → i < length runs →
    IfOk (slice_index_or parts i part) (IsCounted gives f j (bytes_of (slice_index_or runs i run).items) [])

-- the counted files of a part; and below, its errors
abbrev pub files_of : Result CountedFiles AllocError → List FileLineModel
files_of (Ok found) = found.files.items
files_of (Err _) = []

abbrev pub faults_of : Result CountedFiles AllocError → List FaultLineModel
faults_of (Ok found) = found.faults.items
faults_of (Err _) = []

-- no allocation failed in a part, and what was found is the files of all parts, in order, and the errors of absent paths, followed by those
-- of all parts
pub record Joins (parts : List (Result CountedFiles AllocError)) (absent : List FaultLineModel) (found : CountedFiles) : Type 0 where
  pub each : AllByRecursion IsOk parts
  pub files : found.files.items ≡ flat_map files_of parts
  pub faults : found.faults.items ≡ absent ++ flat_map faults_of parts

-- the files of these names are counted, except for the last ones, whose names are `rest`
pub record CountsSome (gives : List ℕ → Contents) (f : FiltersModel) (j : JobModel) (names : List (Vec ℕ Global))
    (absent : List FaultLineModel) (rest : List (Vec ℕ Global)) (found : CountedFiles) : Type 0 where
  pub done : List (Vec ℕ Global)
  pub all : done ++ rest ≡ names
  pub counted : IsCounted gives f j (bytes_of done) absent found

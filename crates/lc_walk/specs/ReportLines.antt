-- The paths of a report's lines.
use Rattle.std.specs.Prelude.{ℕ, List, map}
use Rattle.lc_level.specs.{FaultLines.FaultLineModel, Level.{FileLineModel, SkippedLineModel}}

-- the paths of files, in order
abbrev pub file_paths : List FileLineModel → List (List ℕ)
file_paths fs = map (λ f. f.path) fs

-- the paths of errors, in order
abbrev pub fault_paths : List FaultLineModel → List (List ℕ)
fault_paths fs = map (λ f. f.path) fs

-- the paths of skipped entries, in order
abbrev pub skipped_paths : List SkippedLineModel → List (List ℕ)
skipped_paths ls = map (λ l. l.path) ls

-- Where a report has a path.
use Rattle.std.specs.{Prelude.{◌≡◌, ◌⊎◌, ℕ, List, ◌∷◌, ◌++◌}, List.Contains}
use Rattle.lc_glob.specs.Bytes.{slash}
use Rattle.lc_level.specs.Level.{Reason}
use Rattle.lc_tree.specs.declared.entry.Kind.{Kind, TheVariants.{File, Dir, Other}}
use Rattle.lc_walk.specs.{ReportLines.{file_paths, fault_paths, skipped_paths}, declared.report.Report.Report}

module _ (r : Report) (path : List ℕ) where
  -- the path is that of a counted file
  abbrev pub IsCounted : Type 0
  IsCounted = Contains (file_paths r.files.items) path

  -- the path is that of an error
  abbrev pub IsAtFault : Type 0
  IsAtFault = Contains (fault_paths r.faults.items) path

  -- the path is that of an entry that is skipped for this reason
  abbrev pub IsSkipped : Reason → Type 0
  IsSkipped reason = (kind : Kind) × Contains r.skipped.items (record { path = path; kind = kind; reason = reason })

  -- the entry with this path is not skipped: a file is counted or has an error, and a directory is not among the skipped entries
  abbrev pub IsKept : Kind → Type 0
  IsKept File = IsCounted ⊎ IsAtFault
  IsKept Dir = Contains (skipped_paths r.skipped.items) path → ⊥
  IsKept (Other what) = ⊥

-- a directory above the path is skipped for this reason
abbrev pub IsSkippedAbove : Report → List ℕ → Reason → Type 0
IsSkippedAbove r path reason = (directory : List ℕ) × (rest : List ℕ) × (path ≡ directory ++ slash ∷ rest) × IsSkipped r directory reason

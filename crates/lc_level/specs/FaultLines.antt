-- An error at a path.
use Rattle.std.specs.Prelude.{ℕ, List}
use Rattle.lc_glob.specs.Path.{path_in}
use Rattle.lc_level.specs.declared.fault_word.FaultWord.{FaultWord}

-- what was not counted, and why
pub record FaultLineModel : Type 0 where
  pub path : List ℕ
  pub word : FaultWord

-- the error, with its path joined to the path of a directory above
abbrev pub fault_below : List ℕ → FaultLineModel → FaultLineModel
fault_below directory f = record { path = path_in directory f.path; word = f.word }

-- The parts of the row of a listed directory, as contracts see them.
use Rattle.std.specs.Prelude.{ℕ, List}
use Rattle.lc_level.specs.{Job.JobModel, Level.{FileLineModel, SkippedLineModel}, FaultLines.FaultLineModel}

-- a child directory that was posted: its name, and its number on the board
pub record ChildModel : Type 0 where
  pub name : List ℕ
  pub number : ℕ

-- a directory that was listed, with the number of its entries. Its counted files and skipped entries are stored only if the report lists
-- them
pub record ListedRowModel : Type 0 where
  pub job : JobModel
  pub entries : ℕ
  pub files : List FileLineModel
  pub faults : List FaultLineModel
  pub skipped : List SkippedLineModel
  pub children : List ChildModel

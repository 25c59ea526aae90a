-- Rows: what a worker finds in a directory.
use Rattle.std.specs.Prelude.{List, []}
use Rattle.lc_board.specs.declared.answers.Ended.{Ended}
use Rattle.lc_level.specs.Job.{JobModel}
use Rattle.lc_walk.specs.{RowViews.ChildModel, declared.row.Row.{Row, TheVariants.{Listed, Faulted, Broken}}}
use Rattle.lc_board.specs.declared.answers.Ended.TheVariants as ended

abbrev pub row_of : {R : Type 0} → Ended R → R
row_of (ended.Returned r) = r
row_of (ended.Faulted r) = r

abbrev pub job_of : Row → JobModel
job_of (Listed r) = r.job
job_of (Faulted r) = r.job
job_of (Broken r) = r.job

-- the posted child directories of the row's directory
abbrev pub children_in : Row → List ChildModel
children_in (Listed r) = r.children
children_in (Faulted r) = []
children_in (Broken r) = []

abbrev pub IsWhole : Row → Type 0
IsWhole (Listed r) = Unit {0}
IsWhole (Faulted r) = Unit {0}
IsWhole (Broken r) = ⊥

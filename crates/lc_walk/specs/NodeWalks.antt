-- A walk of an in-memory tree.
use Rattle.std.specs.Prelude.{◌≡◌, ℕ, ◌≤◌, true, Ok}
use Rattle.lc_board.specs.ClosedBoard.{Promises}
use Rattle.lc_level.specs.{Job.JobModel, NodeTrees.tree_of_node, OneAnswer.FitsMemory, Filters.FiltersModel, TreeAnswers.MayAnswer}
use Rattle.lc_tree.specs.{MemTrees.{mem_lists, mem_gives}, declared.node.Node.Node}
use Rattle.lc_walk.specs.{Lawful.Asked, RecursiveWalk.walk_of, BoardAnswers.{IsOneAnswer, WalkAnswers}, FoundReports.IsReportOf}
use Rattle.lc_walk.specs.declared.report.Report.{Report}

-- an in-memory tree always answers as the tree that its node describes
abbrev pub NodeOneAnswerLaw : Type 0
NodeOneAnswerLaw =
    (top : Node) → FitsMemory top → (filters : FiltersModel) (job : JobModel) →
    IsOneAnswer filters (MayAnswer (mem_lists top) (mem_gives top)) job (tree_of_node top)

-- each report of a walk of an in-memory tree is that of the recursive walk of the tree that its node describes
abbrev pub NodeReportLaw : Type 0
NodeReportLaw =
    (top : Node) → FitsMemory top → (ask : Asked) (capacity workers : ℕ) (job : JobModel) (promises : Promises) (r : Report) →
    WalkAnswers (MayAnswer (mem_lists top) (mem_gives top)) ask capacity workers job promises (Ok r) → promises.keeps ≡ true →
    (depth : ℕ) → capacity ≤ depth → IsReportOf ask.lists (walk_of ask.filters depth job (tree_of_node top)) r

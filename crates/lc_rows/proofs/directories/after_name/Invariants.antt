use Rattle.std.proofs.Common.{length}
use Rattle.lc_rows.proofs.PathCuts.{IsCut}
use Rattle.lc_rows.proofs.directories.after_name.Given as goal

abbrev pub invariant-segments : goal.invariant-segments
invariant-segments l = IsCut l.path l.rest l.number l.left

abbrev pub decreases-segments : goal.decreases-segments
decreases-segments l = length l.rest

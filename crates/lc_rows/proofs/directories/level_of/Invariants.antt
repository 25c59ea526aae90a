use Rattle.std.proofs.Common.{length}
use Rattle.lc_rows.proofs.PathCuts.{IsPassed}
use Rattle.lc_rows.proofs.directories.level_of.Given as goal

abbrev pub invariant-segments : goal.invariant-segments
invariant-segments l = IsPassed l.directory l.rest l.level

abbrev pub decreases-segments : goal.decreases-segments
decreases-segments l = length l.rest

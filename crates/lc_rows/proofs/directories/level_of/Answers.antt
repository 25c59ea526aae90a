use Rattle.std.proofs.Common.{◌+◌, ap}
use Rattle.lc_rows.proofs.PathCuts.{passed_more}
use Rattle.lc_rows.proofs.directories.level_of.Goals as goal

pub segments-preserved : goal.segments-preserved
segments-preserved c =
    passed_more c.args.directory.now c.segments.rest.now c.cut_at_first.result.0.now c.in-Some.below.now c.segments.level
    (c.segments.level + c.names_in-level.result) c.segments.invariant (rw c.in-Some.is at c.cut_at_first.ensures.pieces)
    (rw c.in-Some.is at c.cut_at_first.ensures.whole) (ap (λ n. c.segments.level + n) c.names_in-level.ensures)

use Rattle.std.proofs.Common.{◌≡◌, ◌++◌, length, map}
use Rattle.lc_walk.proofs.report.row_lines.push_below.Given as goal

abbrev pub invariant-lines : goal.invariant-lines
invariant-lines g l =
    l.lines.items ++ map (g.L.Line.below_of l.directory) l.rest ≡ l.fn.lines.items ++ map (g.L.Line.below_of l.directory) l.fn.found

abbrev pub decreases-lines : goal.decreases-lines
decreases-lines g l = length l.rest

use Rattle.std.proofs.Common.{length}
use Rattle.lc_reading.proofs.ListsRead.{SoFar}
use Rattle.lc_reading.proofs.lists.read_lines.Given as goal

abbrev pub invariant-lines : goal.invariant-lines
invariant-lines g l = SoFar (g.L.ListLine.is_of l.attributes) l.initial.reader l.reader l.lines.items

abbrev pub decreases-lines : goal.decreases-lines
decreases-lines g l = length l.reader

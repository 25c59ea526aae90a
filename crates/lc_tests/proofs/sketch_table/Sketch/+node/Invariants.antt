-- The children of the entries so far.
use Rattle.std.proofs.Common.{take}
use Rattle.lc_tests.proofs.Sketching.{AreTreesOf}
use Rattle.lc_tests.proofs.sketch_table.Sketch.+node.Given as goal

abbrev pub invariant-loop-entry : goal.invariant-loop-entry
invariant-loop-entry l = AreTreesOf (take l.entry-index l.entry-items) l.children.items

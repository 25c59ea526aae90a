use Rattle.std.proofs.Common.{◌≡◌, length}
use Rattle.lc_walk.specs.Classes.{both_classes, classes_of}
use Rattle.lc_walk.proofs.tally.classes.ClassSums.of.Given as goal

-- the sums so far, and those over the other rows, are those over all rows
abbrev pub invariant-rows : goal.invariant-rows
invariant-rows l = both_classes l.sums (classes_of l.rest) ≡ classes_of l.fn.rows

abbrev pub decreases-rows : goal.decreases-rows
decreases-rows l = length l.rest

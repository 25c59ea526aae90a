use Rattle.std.proofs.Common.{◌≡◌, ◌++◌}
use Rattle.lc_picture.specs.{Nested.closings, Pieces.text_of}
use Rattle.lc_picture.proofs.boxes.push_closings.Given as goal

abbrev pub invariant-boxes : goal.invariant-boxes
invariant-boxes l = l.text.items ++ text_of (closings l.rest) ≡ l.initial.text.items ++ text_of (closings l.count)

abbrev pub decreases-boxes : goal.decreases-boxes
decreases-boxes l = l.rest

use Rattle.std.proofs.Common.{◌≡◌, [], ◌++◌, drop}
use Rattle.lc_picture.specs.Places.{placed_from}
use Rattle.lc_picture.proofs.largest_first.placed_boxes.Given as goal

abbrev pub invariant-loop-drawn : goal.invariant-loop-drawn
invariant-loop-drawn l = l.placed.items ++ placed_from l.by l.branch.items (drop l.drawn-index l.boxes) ≡ placed_from l.by [] l.boxes

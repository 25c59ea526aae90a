use Rattle.std.proofs.Common.{◌≡◌, ◌++◌, drop}
use Rattle.lc_picture.specs.{Nested.boxes_in, Pieces.text_of}
use Rattle.lc_picture.proofs.boxes.push_boxes.Given as goal

abbrev pub invariant-loop-index : goal.invariant-loop-index
invariant-loop-index l =
    l.text.items ++ text_of (boxes_in l.scale l.within (drop l.index l.boxes))
    ≡ l.initial.text.items ++ text_of (boxes_in l.scale 0 l.boxes)

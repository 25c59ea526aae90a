use Rattle.std.proofs.Common.{◌≡◌, ◌++◌, drop}
use Rattle.lc_picture.specs.Boxes.{drawn_boxes}
use Rattle.lc_picture.proofs.directory_box.drawn_boxes.Given as goal

abbrev pub invariant-loop-index : goal.invariant-loop-index
invariant-loop-index l =
    l.boxes.items ++ drawn_boxes l.by l.least (drop l.place l.kinds) (drop l.index l.rows) ≡ drawn_boxes l.by l.least l.kinds l.rows

use Rattle.std.proofs.Common.{◌≡◌, map, take}
use Rattle.lc_picture.specs.Places.{PlacedModel}
use Rattle.lc_picture.proofs.largest_first.boxes_of.Given as goal

abbrev pub invariant-loop-one : goal.invariant-loop-one
invariant-loop-one l = l.boxes.items ≡ map (λ (p : PlacedModel). p.drawn) (take l.one-index l.placed)

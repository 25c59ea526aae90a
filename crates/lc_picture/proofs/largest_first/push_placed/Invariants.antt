use Rattle.std.proofs.Common.{◌≡◌, take}
use Rattle.lc_picture.proofs.largest_first.push_placed.Given as goal

abbrev pub invariant-loop-place : goal.invariant-loop-place
invariant-loop-place l = l.places.items ≡ take l.place-index l.branch

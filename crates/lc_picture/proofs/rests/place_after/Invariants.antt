use Rattle.std.proofs.Common.{◌≡◌, ◌≤◌, ◌++◌, drop, length, reverse, take}
use Rattle.lc_picture.specs.{Boxes.BoxModel, Rests.after_deeper}
use Rattle.lc_picture.proofs.rests.place_after.Given as goal

abbrev pub invariant-places : goal.invariant-places
invariant-places l = record {
  inside : l.place ≤ length l.boxes;
  passed : (x : BoxModel) → x.depth ≡ l.depth
      → after_deeper x (reverse l.boxes) ≡ reverse (drop l.place l.boxes) ++ after_deeper x (reverse (take l.place l.boxes));
}

abbrev pub decreases-places : goal.decreases-places
decreases-places l = l.place

use Rattle.std.proofs.Common.{◌≡◌, ◌≤◌, drop, length, reverse}
use Rattle.lc_picture.specs.Rests.{with_rests}
use Rattle.lc_picture.proofs.rests.with_rests.Given as goal

abbrev pub invariant-boxes : goal.invariant-boxes
invariant-boxes l = record {
  inside : l.index ≤ length l.boxes;
  made : l.made.items ≡ reverse (with_rests l.by (drop l.index l.boxes));
}

abbrev pub decreases-boxes : goal.decreases-boxes
decreases-boxes l = l.index

use Rattle.std.proofs.Common.{◌≡◌, ◌≤◌, drop, length, reverse}
use Rattle.lc_picture.specs.Small.{ArePending, smalls_of}
use Rattle.lc_picture.proofs.small_directories.smalls_of.Given as goal

abbrev pub invariant-rows : goal.invariant-rows
invariant-rows l = record {
  smalls : l.smalls.items ≡ reverse (smalls_of l.by l.least (drop l.index l.rows));
  pending : ArePending l.by l.least (drop l.index l.rows) l.pending.items;
  inside : l.index ≤ length l.rows;
}

abbrev pub decreases-rows : goal.decreases-rows
decreases-rows l = l.index

use Rattle.std.proofs.Common.{◌≡◌, ◌≤◌, ◌-◌, length, take}
use Rattle.lc_paths.proofs.checking.checker.shared_len.Given as goal

abbrev pub decreases-bytes : goal.decreases-bytes
decreases-bytes l = length l.one - l.shared

abbrev pub invariant-bytes : goal.invariant-bytes
invariant-bytes l = record {
  within_one : l.shared ≤ length l.one;
  within_other : l.shared ≤ length l.other;
  same : take l.shared l.one ≡ take l.shared l.other;
}

use Rattle.std.proofs.Common.{◌≡◌, length, ◌-◌, ◌≤◌, drop}
use Rattle.lc_census.specs.Scan.{after_all, HasRoom}
use Rattle.lc_census.proofs.simd.scan_simd.Given as goal

abbrev pub decreases-loop-at : goal.decreases-loop-at
decreases-loop-at l = length l.bytes - l.at

abbrev pub invariant-loop-at : goal.invariant-loop-at
invariant-loop-at l =
    record {
      within : l.at ≤ length l.bytes;
      told : after_all l.so_far (drop l.at l.bytes) ≡ after_all l.fn.scan l.bytes;
      room : HasRoom l.so_far (length l.bytes - l.at);
    }

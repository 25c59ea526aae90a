use Rattle.std.proofs.Common.{◌≡◌, length, ◌-◌, drop}
use Rattle.lc_census.specs.Scan.{after_all, HasRoom}
use Rattle.lc_census.proofs.scalar.scan_scalar.Given as goal

abbrev pub invariant-loop-byte : goal.invariant-loop-byte
invariant-loop-byte l =
    record {
      told : after_all l.so_far (drop l.byte-index l.bytes) ≡ after_all l.fn.scan l.bytes;
      room : HasRoom l.so_far (length l.bytes - l.byte-index);
    }

use Rattle.std.proofs.Common.{◌≡◌, map}
use Rattle.lc_reading.specs.Reports.{row_in}
use Rattle.lc_reading.proofs.kept_files.tally_rows.Given as goal

abbrev pub invariant-loop-row : goal.invariant-loop-row
invariant-loop-row l = l.tally.items ≡ map row_in l.yielded

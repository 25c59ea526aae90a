use Rattle.std.proofs.Common.{length}
use Rattle.lc_reading.specs.Reports.{HaveColumns}
use Rattle.lc_reading.proofs.kept_files.columns_of_rows.Given as goal

abbrev pub invariant-rows : goal.invariant-rows
invariant-rows l = HaveColumns l.columns l.rest → HaveColumns l.columns l.rows

abbrev pub decreases-rows : goal.decreases-rows
decreases-rows l = length l.rest

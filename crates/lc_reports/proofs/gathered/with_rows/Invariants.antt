use Rattle.std.proofs.Common.{◌≡◌, length}
use Rattle.lc_walk.specs.{Sums.plus, TallyRows.sums_of_rows}
use Rattle.lc_reports.proofs.gathered.with_rows.Given as goal

abbrev pub invariant-rows : goal.invariant-rows
invariant-rows l = plus l.all (sums_of_rows l.rest) ≡ plus l.fn.sums (sums_of_rows l.fn.rows)

abbrev pub decreases-rows : goal.decreases-rows
decreases-rows l = length l.rest

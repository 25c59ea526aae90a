use Rattle.std.proofs.Common.{◌≡◌, length}
use Rattle.lc_walk.specs.{Sums.plus, TallyRows.sums_of_rows}
use Rattle.lc_walk.proofs.tally.row_sums.sums_of_rows.Given as goal

-- the sums so far, and those over the other rows, are those over all rows
abbrev pub invariant-rows : goal.invariant-rows
invariant-rows l = plus l.sums (sums_of_rows l.rest) ≡ sums_of_rows l.fn.rows

abbrev pub decreases-rows : goal.decreases-rows
decreases-rows l = length l.rest

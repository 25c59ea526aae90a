use Rattle.std.proofs.Common.{◌≡◌, take}
use Rattle.lc_rows.specs.RowKeys.{sums_of_shown}
use Rattle.lc_rows.proofs.cut.sums_of_some.Given as goal

abbrev pub invariant-loop-row : goal.invariant-loop-row
invariant-loop-row l = l.sums ≡ sums_of_shown (take l.row-index l.rows)

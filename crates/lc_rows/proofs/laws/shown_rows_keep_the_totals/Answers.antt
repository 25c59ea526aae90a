use Rattle.lc_rows.proofs.RowLaws.{totals_law}
use Rattle.lc_rows.proofs.laws.shown_rows_keep_the_totals.Goals as goal

pub returns : goal.returns
returns c = totals_law

use Rattle.lc_reports.proofs.AddedTotals.{name_totals}
use Rattle.lc_reports.proofs.laws.names_change_no_number.Goals as goal

pub returns : goal.returns
returns c = name_totals

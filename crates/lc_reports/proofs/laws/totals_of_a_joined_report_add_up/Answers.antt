use Rattle.lc_reports.proofs.AddedTotals.{join_totals}
use Rattle.lc_reports.proofs.laws.totals_of_a_joined_report_add_up.Goals as goal

pub returns : goal.returns
returns c = join_totals

use Rattle.lc_reports.proofs.Orders.{join_order}
use Rattle.lc_reports.proofs.laws.a_joined_report_has_no_order.Goals as goal

pub returns : goal.returns
returns c = join_order

use Rattle.lc_walk.proofs.Reports.{report_law}
use Rattle.lc_walk.proofs.laws.a_report_has_no_order.Goals as goal

pub returns : goal.returns
returns c = report_law

use Rattle.lc_reports.proofs.AnyOrder.{sum_order}
use Rattle.lc_reports.proofs.laws.a_sum_has_no_order.Goals as goal

pub returns : goal.returns
returns c = sum_order

use Rattle.lc_rows.proofs.KeptParts.{order_law}
use Rattle.lc_rows.proofs.kept_laws.conditions_have_no_order.Goals as goal

pub returns : goal.returns
returns c = order_law

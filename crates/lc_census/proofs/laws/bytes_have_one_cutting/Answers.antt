use Rattle.lc_census.proofs.OneCutting.{one_cutting}
use Rattle.lc_census.proofs.laws.bytes_have_one_cutting.Goals as goal

pub returns : goal.returns
returns c = one_cutting

use Rattle.lc_walk.proofs.Joining.{stands_permuted}
use Rattle.lc_walk.proofs.laws.a_tally_has_no_order.Goals as goal

pub returns : goal.returns
returns c = λ tally files moved is_moved stood. stands_permuted tally files moved is_moved stood

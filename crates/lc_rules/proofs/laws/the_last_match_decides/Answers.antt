use Rattle.lc_rules.proofs.LastMatch.{decides_by_last}
use Rattle.lc_rules.proofs.laws.the_last_match_decides.Goals as goal

pub returns : goal.returns
returns c = decides_by_last

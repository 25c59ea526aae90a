use Rattle.lc_rules.proofs.MatchingNothing.{gives_nothing}
use Rattle.lc_rules.proofs.laws.what_cannot_match_gives_nothing.Goals as goal

pub returns : goal.returns
returns c = gives_nothing

use Rattle.lc_walk.proofs.RulesThatIgnore.{rule_law}
use Rattle.lc_walk.proofs.laws.the_rule_of_a_line_ignores_it.Goals as goal

pub returns : goal.returns
returns c = rule_law c.the_last_match_decides.ensures

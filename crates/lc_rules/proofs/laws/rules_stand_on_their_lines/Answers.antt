use Rattle.lc_rules.proofs.RuleLineNumbers.{on_their_lines}
use Rattle.lc_rules.proofs.laws.rules_stand_on_their_lines.Goals as goal

pub returns : goal.returns
returns c = on_their_lines

use Rattle.lc_rules.proofs.LastMatch.{decides_by_command_line}
use Rattle.lc_rules.proofs.laws.the_command_line_decides.Goals as goal

pub returns : goal.returns
returns c = decides_by_command_line

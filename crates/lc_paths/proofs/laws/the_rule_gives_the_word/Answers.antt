use Rattle.lc_paths.proofs.Checks.GivenWords.{rule_gives_word}
use Rattle.lc_paths.proofs.laws.the_rule_gives_the_word.Goals as goal

pub returns : goal.returns
returns c = rule_gives_word

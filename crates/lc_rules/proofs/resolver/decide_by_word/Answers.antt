use Rattle.lc_rules.proofs.Deciding.{word_decides, expansion_decides}
use Rattle.lc_rules.proofs.resolver.decide_by_word.Goals as goal

pub returns-in-Some : goal.returns-in-Some
returns-in-Some c = word_decides c.requires c.in-Some.is c.in_ok-state.ensures.moves

pub returns : goal.returns
returns c = expansion_decides c.requires c.in_default.is c.in_ok-state.ensures.moves c.in_ok-found.ensures

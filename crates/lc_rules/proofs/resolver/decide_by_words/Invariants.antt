use Rattle.std.proofs.Common.{reverse, length}
use Rattle.lc_rules.specs.WrittenLines.{assigned}
use Rattle.lc_rules.proofs.Deciding.{Passes}
use Rattle.lc_rules.proofs.resolver.decide_by_words.Given as goal

abbrev pub invariant-words : goal.invariant-words
invariant-words l = Passes l.query (reverse (assigned l.words)) l.initial.resolver (reverse (assigned l.rest)) l.resolver

abbrev pub decreases-words : goal.decreases-words
decreases-words l = length l.rest

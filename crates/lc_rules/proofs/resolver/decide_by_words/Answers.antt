use Rattle.std.proofs.Common.{reverse}
use Rattle.lc_rules.specs.WrittenLines.{assigned}
use Rattle.lc_rules.proofs.{Deciding.{next_decides, next_passes}, ReadingOrder.assignments_last}
use Rattle.lc_rules.proofs.resolver.decide_by_words.Goals as goal

pub returns-in-Some-2 : goal.returns-in-Some-2
returns-in-Some-2 c =
    next_decides (reverse (assigned c.in-Some.before.now)) c.words.invariant (assignments_last _ _ _ c.in-Some.ensures.cases)
    c.in-Some-2.is c.in_ok-state.ensures

pub words-preserved : goal.words-preserved
words-preserved c =
    next_passes (reverse (assigned c.in-Some.before.now)) c.words.invariant (assignments_last _ _ _ c.in-Some.ensures.cases)
    c.in_default-2.is c.in_ok-state.ensures

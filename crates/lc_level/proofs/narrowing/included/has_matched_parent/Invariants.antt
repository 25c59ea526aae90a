use Rattle.lc_level.proofs.MatchedParents.{NoneBefore}
use Rattle.lc_level.proofs.narrowing.included.has_matched_parent.Given as goal

abbrev pub invariant-loop-len : goal.invariant-loop-len
invariant-loop-len l = NoneBefore l.patterns l.path l.len

use Rattle.lc_glob.proofs.Matching.{decided}
use Rattle.lc_glob.proofs.pattern_ref.PatternRef.matches_candidate.Goals as goal

pub returns-clause-computed : goal.returns-clause-computed
returns-clause-computed c = decided _ _ _ _ c.matched.ensures.meaning

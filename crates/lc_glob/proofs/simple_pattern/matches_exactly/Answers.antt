use Rattle.lc_glob.proofs.ExactPaths.{exact_decides, exact_cost, tests_most}
use Rattle.lc_glob.proofs.simple_pattern.matches_exactly.Goals as goal

pub returns-clause-same : goal.returns-clause-same
returns-clause-same c = rw c.is.ensures.same (exact_decides c.args.bytes.now c.args.path.now)

pub returns-clause-cost : goal.returns-clause-cost
returns-clause-cost c = exact_cost c.args.bytes.now c.args.path.now _ _ (tests_most _ _ _ _ c.is.ensures.counted)

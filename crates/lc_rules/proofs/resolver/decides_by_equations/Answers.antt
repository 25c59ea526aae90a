use Rattle.lc_rules.proofs.DecisionLaws.{keeps_equations}
use Rattle.lc_rules.proofs.resolver.decides_by_equations.Goals as goal

pub returns : goal.returns
returns c = keeps_equations

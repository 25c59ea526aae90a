use Rattle.std.proofs.Common.{arith}
use Rattle.lc_glob.proofs.{Bounds.whole_bound, Matching.decided}
use Rattle.lc_glob.proofs.pattern.Pattern.matches_counted.Goals as goal

pub returns-clause-computed : goal.returns-clause-computed
returns-clause-computed c = decided _ _ _ _ (rw (c.measured.ensures, c.as_ref.ensures) at c.matched-found.ensures.meaning)

pub returns-clause-bound : goal.returns-clause-bound
returns-clause-bound c = λ bytes e.
    let cost = rw (c.measured.ensures, c.as_ref.ensures) at c.matched-found.ensures.cost in
    whole_bound bytes c.args.path.now c.args.self.now _ (omega (arith, cost, c.none-tests.ensures, c.made.ensures)) e

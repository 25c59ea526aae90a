use Rattle.std.proofs.Common.{ap, arith}
use Rattle.lc_glob.specs.Costs.{full_cost}
use Rattle.lc_glob.proofs.Bounds.{whole_bound}
use Rattle.lc_glob.proofs.pattern.Pattern.match_directories_counted.Goals as goal

pub returns-clause-bound : goal.returns-clause-bound
returns-clause-bound c = λ bytes path e is.
    let cost = rw c.new.ensures at (rw c.as_ref.ensures at c.flag_directories.ensures.cost) in
    whole_bound bytes path c.args.self.now _
    (omega (arith, cost, ap (full_cost c.args.self.now.segments) is, c.none-tests.ensures, c.made.ensures)) e

use Rattle.std.proofs.Common.{ap, sym, ◌∙◌, arith}
use Rattle.lc_glob.specs.{Path.segments_of, Simple.end_tokens}
use Rattle.lc_glob.proofs.Ends.{last_cost}
use Rattle.lc_glob.proofs.simple_pattern.SimplePattern.matched.Goals as goal

pub returns-in-Suffix-clause-cost : goal.returns-in-Suffix-clause-cost
returns-in-Suffix-clause-cost c =
    let most = last_cost _ _ (end_tokens c.in-Suffix.is_whole c.args.self.bytes.now) _ _ _
    (ap segments_of (sym c.path.view_is) ∙ c.path.invariant.0) c.fits_end.ensures.cost in
    rw c.in-Suffix.is (omega (arith, most))

use Rattle.std.proofs.Common.{ap, sym, map, ◌∙◌}
use Rattle.lc_glob.specs.{Path.segments_of, Simple.byte_token}
use Rattle.lc_glob.proofs.Ends.{last_cost}
use Rattle.lc_glob.proofs.simple_pattern.SimplePattern.matched_by.Goals as goal

pub returns-in-LastSegment-clause-cost : goal.returns-in-LastSegment-clause-cost
returns-in-LastSegment-clause-cost c =
    rw c.in-LastSegment.is
    (last_cost _ _ (map byte_token c.args.self.bytes.now) _ _ _
    (ap segments_of (sym c.path.view_is) ∙ c.path.invariant.0) c.fits_elements.ensures.cost)

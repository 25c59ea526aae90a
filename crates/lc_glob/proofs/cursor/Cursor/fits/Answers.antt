use Rattle.std.proofs.Common.{arith}
use Rattle.lc_glob.proofs.Fitting.{when_end}
use Rattle.lc_glob.proofs.cursor.Cursor.fits.Goals as goal

pub ends-preserved : goal.ends-preserved
ends-preserved g c =
    let inv = c.ends.invariant in
    let is = c.in-Taken.ensures.is in
    let end = when_end _ _ _ _ _ _ is.2 is.3 is.4 in
    record {
      same = (λ f. (end.0 (inv.same.0 f)).0, λ f. inv.same.1 (end.1 (f, is.5)));
      cost = omega (arith, inv.cost, c.in-Taken.ensures.cost);
    }

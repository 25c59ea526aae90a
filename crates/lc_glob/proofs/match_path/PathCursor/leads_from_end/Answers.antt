use Rattle.std.proofs.Common.{arith}
use Rattle.lc_glob.proofs.Leading.{when_end}
use Rattle.lc_glob.proofs.match_path.PathCursor.leads_from_end.Goals as goal

pub ends-preserved : goal.ends-preserved
ends-preserved c =
    let inv = c.ends.invariant in
    let is = c.in-Taken.ensures.is in
    let end = when_end _ _ _ _ _ _ is.2 is.3 in
    record {
      same = (λ h. (end.0 (inv.same.0 h)).0, λ h. inv.same.1 (end.1 (h, is.4)));
      cost = omega (arith, inv.cost, c.in-Taken.ensures.cost);
    }

use Rattle.std.proofs.Common.{refl}
use Rattle.lc_glob.proofs.Stepping.{hold_after_star, hold_after_byte, hold_after_retry}
use Rattle.lc_glob.proofs.cursor.Cursor.fits_from_front.Goals as goal

pub steps-preserved-in-Star : goal.steps-preserved-in-Star
steps-preserved-in-Star g c =
    let here = c.steps.here in
    hold_after_star g.E.Element.tokens_in c.args.self here record { tokens = c.in-Star.tokens; segment = here.segment } c.steps.star _ _ _
    c.in-Star.ensures.is refl c.in-Star.ensures.cost c.steps.invariant

pub steps-preserved-in-Taken : goal.steps-preserved-in-Taken
steps-preserved-in-Taken g c =
    hold_after_byte g.E.Element.tokens_in c.args.self c.steps.here c.in-Taken.after c.steps.star _ _ _ c.in-Taken.ensures.is
    c.in-Taken.ensures.cost
    c.steps.invariant

pub steps-preserved : goal.steps-preserved
steps-preserved g c =
    let inv = rw c.in-Some.is at c.steps.invariant in
    let next = c.in-Some-retry.next in
    hold_after_retry g.E.Element.tokens_in c.args.self c.steps.here c.in-Some.back next _ _ _ c.in-Stuck.ensures.is c.in-Some-retry.ensures
    c.in-Stuck.ensures.cost inv

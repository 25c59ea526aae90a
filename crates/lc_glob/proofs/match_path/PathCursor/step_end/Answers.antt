use Rattle.std.proofs.{lemmas.Bool.false≢true, Common.arith}
use Rattle.lc_glob.proofs.{Leading.{when_end, when_none, last_leads}, Ends.{end_segment, end_double, end_cost}}
use Rattle.lc_glob.proofs.match_path.PathCursor.step_end.Goals as goal

pub returns-in_default-split_last-clause-is : goal.returns-in_default-split_last-clause-is
returns-in_default-split_last-clause-is c =
    when_none _ _ _ _ (end_segment _ _ _ _ c.in-Some.ensures c.in-Plain.is) c.in_default-split_last.ensures

pub returns-then-fits-clause-cost : goal.returns-then-fits-clause-cost
returns-then-fits-clause-cost c =
    let all = end_cost _ _ _ _ _ _ _ _
    (end_segment _ _ _ _ c.in-Some.ensures c.in-Plain.is) c.in-Some-split_last.ensures c.fits.ensures.cost in
    omega (arith, all)

pub returns-else-fits-clause-is : goal.returns-else-fits-clause-is
returns-else-fits-clause-is c = λ h.
    false≢true (c.if-fits.ensures.fits.1 ((when_end _ _ _ _ _ _
    (end_segment _ _ _ _ c.in-Some.ensures c.in-Plain.is) c.in-Some-split_last.ensures).0 h).1)

pub returns-else-fits-clause-cost : goal.returns-else-fits-clause-cost
returns-else-fits-clause-cost c =
    let all = end_cost _ _ _ _ _ _ _ _
    (end_segment _ _ _ _ c.in-Some.ensures c.in-Plain.is) c.in-Some-split_last.ensures c.fits.ensures.cost in
    omega (arith, all)

pub returns-then-is_empty-clause-is : goal.returns-then-is_empty-clause-is
returns-then-is_empty-clause-is c =
    last_leads _ _ _ (end_double _ _ _ c.in-Some.ensures c.in_default-segment.is) (c.is_empty.ensures.0 c.if-is_empty.true)

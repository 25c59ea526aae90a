use Rattle.std.proofs.{Common.{ap, arith, sym, ◌∙◌}, lemmas.Bool.false≢true}
use Rattle.lc_glob.specs.{Path.segments_of, Views.segments_ref_model}
use Rattle.lc_glob.proofs.{Leading.{double_spelled, plain_spelled}, Ends.{end_segment, end_double, above_cost, end_cost, spell_cost}}
use Rattle.lc_glob.proofs.match_path.matches_path.Goals as goal

pub returns-then-allow-clause-matches_path : goal.returns-then-allow-clause-matches_path
returns-then-allow-clause-matches_path c =
    double_spelled _ _ _ _ _ _ (end_double _ _ _ c.in-Some.ensures c.in_default-last.is)
    (ap segments_of (sym c.path.view_is) ∙ c.path.invariant.0) c.leads_from_front.ensures.leads

pub returns-then-allow-clause-cost : goal.returns-then-allow-clause-cost
returns-then-allow-clause-cost c =
    above_cost (segments_ref_model c.args.segments) _ _ _ _ _
    (ap segments_of (sym c.path.view_is) ∙ c.path.invariant.0) c.leads_from_front.ensures.cost

pub returns-else-allow-clause-matches_path : goal.returns-else-allow-clause-matches_path
returns-else-allow-clause-matches_path c =
    double_spelled _ _ _ _ _ _ (end_double _ _ _ c.in-Some.ensures c.in_default-last.is)
    (ap segments_of (sym c.path.view_is) ∙ c.path.invariant.0)
    (λ h. absurd (false≢true (sym c.if-allow.false ∙ h)), λ h. c.allow.ensures _ c.path.invariant.1 h)

pub returns-then-not-fits-clause-matches_path : goal.returns-then-not-fits-clause-matches_path
returns-then-not-fits-clause-matches_path c =
    let same = plain_spelled _ _ _ _ _ _ (end_segment _ _ _ _ c.in-Some.ensures c.in-Plain.is)
    (ap segments_of (sym c.path.view_is) ∙ c.path.invariant.0) in
    (λ h. absurd (false≢true h), λ h. absurd (false≢true (sym c.if-not-fits.true ∙ c.fits.ensures.fits.1 (same.0 h).1)))

pub returns-then-not-fits-clause-cost : goal.returns-then-not-fits-clause-cost
returns-then-not-fits-clause-cost c =
    let all = end_cost _ _ _ _ _ _ _ _ (end_segment _ _ _ _ c.in-Some.ensures c.in-Plain.is)
    (ap segments_of (sym c.path.view_is) ∙ c.path.invariant.0) c.fits.ensures.cost in
    omega (arith, all)

pub returns-then-allow-2-clause-matches_path : goal.returns-then-allow-2-clause-matches_path
returns-then-allow-2-clause-matches_path c =
    let same = plain_spelled _ _ _ _ _ _ (end_segment _ _ _ _ c.in-Some.ensures c.in-Plain.is)
    (ap segments_of (sym c.path.view_is) ∙ c.path.invariant.0) in (
      λ h. same.1 (c.leads_from_end.ensures.leads.0 h, c.fits.ensures.fits.0 c.if-not-fits.false),
      λ h. c.leads_from_end.ensures.leads.1 (same.0 h).0,
    )

pub returns-then-allow-2-clause-cost : goal.returns-then-allow-2-clause-cost
returns-then-allow-2-clause-cost c =
    spell_cost _ _ _ _ _ _ _ _ _ (end_segment _ _ _ _ c.in-Some.ensures c.in-Plain.is)
    (ap segments_of (sym c.path.view_is) ∙ c.path.invariant.0) c.fits.ensures.cost c.leads_from_end.ensures.cost

pub returns-else-allow-2-clause-matches_path : goal.returns-else-allow-2-clause-matches_path
returns-else-allow-2-clause-matches_path c =
    let same = plain_spelled _ _ _ _ _ _ (end_segment _ _ _ _ c.in-Some.ensures c.in-Plain.is)
    (ap segments_of (sym c.path.view_is) ∙ c.path.invariant.0) in
    (λ h. absurd (false≢true (sym c.if-allow-2.false ∙ h)), λ h. c.allow-2.ensures _ c.path.invariant.1 (same.0 h).0)

pub returns-else-allow-2-clause-cost : goal.returns-else-allow-2-clause-cost
returns-else-allow-2-clause-cost c =
    let all = end_cost _ _ _ _ _ _ _ _ (end_segment _ _ _ _ c.in-Some.ensures c.in-Plain.is)
    (ap segments_of (sym c.path.view_is) ∙ c.path.invariant.0) c.fits.ensures.cost in
    omega (arith, all)

use Rattle.std.proofs.Common.{ap, ◌∷◌, ◌∙◌}
use Rattle.lc_glob.specs.Views.{segment_ref_model, segments_ref_model}
use Rattle.lc_glob.proofs.Leading.{first_leads}
use Rattle.lc_glob.proofs.match_path.PathCursor.step_front.Goals as goal

pub returns-then-is_empty-clause-is : goal.returns-then-is_empty-clause-is
returns-then-is_empty-clause-is c =
    first_leads _ _ _
    (c.in-Some.ensures ∙ ap (λ s. segment_ref_model s ∷ segments_ref_model c.in-Some.segments) c.in_default-segment.is)
    (c.is_empty.ensures.0 c.if-is_empty.true)

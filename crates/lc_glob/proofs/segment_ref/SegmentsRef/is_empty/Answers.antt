use Rattle.std.proofs.Common.{ap, ◌∙◌, map, sym, true, List}
use Rattle.lc_glob.specs.{TokenLists.tokens_model, Reading.segment_from, declared.token.Token.Token}
use Rattle.lc_glob.specs.{Simple.{bytes_segment, ends_segment, exact_segment}, Views.segments_ref_model}
use Rattle.lc_glob.proofs.Fronts.{none_mapped}
use Rattle.lc_glob.proofs.segment_ref.SegmentsRef.is_empty.Goals as goal

pub returns-in-Bytes : goal.returns-in-Bytes
returns-in-Bytes c =
    let is = ap segments_ref_model c.in-Bytes.is in
    (λ h. is ∙ ap (map bytes_segment) (c.is_over.ensures.0 h), λ h. c.is_over.ensures.1 (none_mapped bytes_segment _ (sym is ∙ h)))

pub returns-in-Ends : goal.returns-in-Ends
returns-in-Ends c =
    let is = ap segments_ref_model c.in-Ends.is in (
      λ h. is ∙ ap (map ends_segment) (c.is_over-in-Ends.ensures.0 h),
      λ h. c.is_over-in-Ends.ensures.1 (none_mapped ends_segment _ (sym is ∙ h)),
    )

pub returns-in-Exact : goal.returns-in-Exact
returns-in-Exact c =
    let is = ap segments_ref_model c.in-Exact.is in (
      λ h. is ∙ ap (map exact_segment) (c.is_over-in-Exact.ensures.0 h),
      λ h. c.is_over-in-Exact.ensures.1 (none_mapped exact_segment _ (sym is ∙ h)),
    )

pub returns-in-Tokens : goal.returns-in-Tokens
returns-in-Tokens c =
    let is = ap segments_ref_model c.in-Tokens.is in
    let segment = λ (part : List Token). segment_from true (tokens_model part) in (
      λ h. is ∙ ap (map segment) (c.is_over-in-Tokens.ensures.0 h),
      λ h. c.is_over-in-Tokens.ensures.1 (none_mapped segment _ (sym is ∙ h)),
    )

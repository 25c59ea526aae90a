use Rattle.std.proofs.Common.{◌≡◌, false, length}
use Rattle.lc_glob.specs.{Above.has_nested_after, Views.segments_ref_model}
use Rattle.lc_glob.proofs.match_above.has_nested_wildcards.Given as goal

abbrev pub invariant-segments : goal.invariant-segments
invariant-segments l = has_nested_after false (segments_ref_model l.segments) ≡ has_nested_after l.is_wide (segments_ref_model l.rest)

abbrev pub decreases-segments : goal.decreases-segments
decreases-segments l = length (segments_ref_model l.rest)

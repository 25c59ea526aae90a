use Rattle.std.proofs.Common.{◌≡◌, ◌≤◌, ◌+◌, length, List, ◌++◌}
use Rattle.lc_glob.specs.{Above.names_of, Costs.full_cost, Patterns.SegmentModel, Views.segments_ref_model}
use Rattle.lc_glob.proofs.Above.{AreLed}
use Rattle.lc_glob.proofs.match_above.lead_above.Given as goal

abbrev pub invariant-segments : goal.invariant-segments
invariant-segments l =
    (length l.flags ≡ length l.initial.flags) × (done : List SegmentModel)
    × (segments_ref_model l.segments ≡ done ++ segments_ref_model l.rest) × AreLed done (names_of l.names.names.now) l.flags
    × (l.tests.made ≤ l.initial.tests.made + full_cost done (names_of l.names.names.now))

abbrev pub decreases-segments : goal.decreases-segments
decreases-segments l = length (segments_ref_model l.rest)

use Rattle.std.proofs.Common.{ℕ, List, length}
use Rattle.std.specs.List.{All}
use Rattle.lc_glob.specs.{Leads.Leads, Lengths.{AreBetween, FitsSome}, Views.segments_ref_model}
use Rattle.lc_glob.proofs.lengths.Lengths.allow_each.Given as goal

abbrev pub invariant-segments : goal.invariant-segments
invariant-segments l = (names : List (List ℕ)) → AreBetween l.self names → Leads (segments_ref_model l.segments) names
    → All (FitsSome l.self) (segments_ref_model l.rest)

abbrev pub decreases-segments : goal.decreases-segments
decreases-segments l = length (segments_ref_model l.rest)

use Rattle.std.proofs.Common.{◌≤◌, length}
use Rattle.lc_glob.specs.{Lengths.AreBetween, Path.segments_left, declared.lengths.Lengths.Lengths}
use Rattle.lc_glob.proofs.lengths.Lengths.of.Given as goal

abbrev pub invariant-segments : goal.invariant-segments
invariant-segments l = (lengths : Lengths) → lengths.shortest ≤ l.shortest → l.longest ≤ lengths.longest
    → AreBetween lengths (segments_left l.rest.rest) → AreBetween lengths (segments_left l.path.rest)

abbrev pub decreases-segments : goal.decreases-segments
decreases-segments l = length (segments_left l.rest.rest)

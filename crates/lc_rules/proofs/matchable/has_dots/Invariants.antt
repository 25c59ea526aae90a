use Rattle.std.proofs.Common.{◌≡◌, length}
use Rattle.lc_glob.specs.Path.{segments_of}
use Rattle.lc_rules.specs.CanMatch.{has_dots}
use Rattle.lc_rules.proofs.matchable.has_dots.Given as goal

abbrev pub invariant-segments : goal.invariant-segments
invariant-segments l = has_dots (segments_of l.pattern) ≡ has_dots (segments_of l.rest)

abbrev pub decreases-segments : goal.decreases-segments
decreases-segments l = length l.rest

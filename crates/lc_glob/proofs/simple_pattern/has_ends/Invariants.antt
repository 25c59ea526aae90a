use Rattle.std.proofs.Common.{◌≡◌, length}
use Rattle.std.specs.List.{list_all}
use Rattle.lc_glob.specs.{Path.{segments_of, segments_left}, Simple.is_ends_segment}
use Rattle.lc_glob.proofs.simple_pattern.has_ends.Given as goal

abbrev pub invariant-segments : goal.invariant-segments
invariant-segments l = list_all is_ends_segment (segments_of l.bytes) ≡ list_all is_ends_segment (segments_left l.rest.rest)

abbrev pub decreases-segments : goal.decreases-segments
decreases-segments l = length (segments_left l.rest.rest)

use Rattle.std.proofs.Common.{◌≡◌, length, map}
use Rattle.lc_glob.specs.{Elements.parts_in, Pieces.cuts_left, Reading.some_empty}
use Rattle.lc_glob.proofs.scope.has_empty.Given as goal

abbrev pub invariant-segments : goal.invariant-segments
invariant-segments g l =
    some_empty (parts_in g.E.Element.tokens_in g.E.Element.separates l.elements)
    ≡ some_empty (map g.E.Element.tokens_in (cuts_left g.E.Element.separates l.rest.rest))

abbrev pub decreases-segments : goal.decreases-segments
decreases-segments g l = length (cuts_left g.E.Element.separates l.rest.rest)

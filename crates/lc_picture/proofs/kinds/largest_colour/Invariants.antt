use Rattle.std.proofs.Common.{◌≡◌, drop}
use Rattle.lc_picture.specs.{Colours.shared_colour, Kinds.largest_colour}
use Rattle.lc_picture.proofs.kinds.largest_colour.Given as goal

abbrev pub invariant-loop-kind : goal.invariant-loop-kind
invariant-loop-kind l =
    largest_colour l.chart l.by l.number l.colour (drop l.kind-index l.kinds) ≡ largest_colour l.chart l.by 0 shared_colour l.kinds

use Rattle.std.proofs.Common.{◌≡◌, ◌++◌, drop}
use Rattle.lc_picture.specs.{Legend.legend_from, Pieces.text_of}
use Rattle.lc_picture.proofs.legend.push_legend.Given as goal

abbrev pub invariant-loop-colour : goal.invariant-loop-colour
invariant-loop-colour l =
    l.text.items ++ text_of (legend_from l.by l.colour (drop l.colour l.first))
    ≡ l.initial.text.items ++ text_of (legend_from l.by 0 l.first)

use Rattle.std.proofs.Common.{◌≡◌, ◌++◌, take}
use Rattle.lc_picture.specs.Escaping.{html}
use Rattle.lc_picture.proofs.escaping.push_html.Given as goal

abbrev pub invariant-loop-b : goal.invariant-loop-b
invariant-loop-b l = l.text.items ≡ l.initial.text.items ++ html (take l.b-index l.shown)

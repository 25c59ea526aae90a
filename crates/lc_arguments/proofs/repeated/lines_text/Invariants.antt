use Rattle.std.proofs.Common.{◌≡◌, map, take}
use Rattle.lc_arguments.specs.Repeated.{lines_text}
use Rattle.lc_arguments.proofs.repeated.lines_text.Given as goal

abbrev pub invariant-loop-line : goal.invariant-loop-line
invariant-loop-line l = l.text.items ≡ lines_text (map (λ line. line.now) (take l.line-index l.lines))

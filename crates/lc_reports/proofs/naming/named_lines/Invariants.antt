use Rattle.std.proofs.Common.{◌≡◌, ◌++◌, map}
use Rattle.lc_reports.proofs.naming.named_lines.Given as goal

abbrev pub invariant-loop-line : goal.invariant-loop-line
invariant-loop-line g l =
    (l.yielded ++ l.line-iterator.rest.items ≡ l.fn.lines.items) × (l.named.items ≡ map (g.L.PathLine.named_of l.name) l.yielded)

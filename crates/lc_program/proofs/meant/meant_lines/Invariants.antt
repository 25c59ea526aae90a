use Rattle.std.proofs.Common.{◌≡◌, map, string_bytes, take}
use Rattle.lc_program.specs.Meant.{meant_lines}
use Rattle.lc_program.proofs.meant.meant_lines.Given as goal

abbrev pub invariant-loop-pattern : goal.invariant-loop-pattern
invariant-loop-pattern l = string_bytes l.text ≡ meant_lines (map (λ pattern. pattern.now) (take l.pattern-index l.patterns))

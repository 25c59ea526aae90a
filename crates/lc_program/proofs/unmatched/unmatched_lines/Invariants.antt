use Rattle.std.proofs.Common.{◌≡◌, string_bytes, take}
use Rattle.lc_program.specs.Unmatched.{unmatched_lines}
use Rattle.lc_program.proofs.unmatched.unmatched_lines.Given as goal

abbrev pub invariant-loop-pattern : goal.invariant-loop-pattern
invariant-loop-pattern l = string_bytes l.text ≡ unmatched_lines (take l.pattern-index l.patterns)

use Rattle.std.proofs.Common.{◌≡◌, string_bytes, take}
use Rattle.lc_program.specs.Unnamed.{unnamed_lines_of}
use Rattle.lc_program.proofs.unnamed.lines_of.Given as goal

abbrev pub invariant-loop-attribute : goal.invariant-loop-attribute
invariant-loop-attribute l = string_bytes l.text ≡ unnamed_lines_of (take l.attribute-index l.attributes)

use Rattle.std.proofs.Common.{◌≡◌, ◌++◌, take, flat_map}
use Rattle.lc_text.specs.Escape.{escape_byte}
use Rattle.lc_text.proofs.escaping.push_escaped.Given as goal

abbrev pub invariant-loop-b : goal.invariant-loop-b
invariant-loop-b l = l.text.items ≡ l.initial.text.items ++ flat_map escape_byte (take l.b-index l.bytes)

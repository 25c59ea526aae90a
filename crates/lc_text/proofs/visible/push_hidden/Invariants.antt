use Rattle.std.proofs.Common.{◌≡◌, ◌++◌, take, flat_map, string_bytes}
use Rattle.lc_text.specs.Escape.{hex_byte}
use Rattle.lc_text.proofs.visible.push_hidden.Given as goal

abbrev pub invariant-loop-b : goal.invariant-loop-b
invariant-loop-b l = string_bytes l.text ≡ string_bytes l.initial.text ++ flat_map hex_byte (take l.b-index l.b-items)

use Rattle.std.proofs.Common.{◌≡◌, ◌++◌, encode_utf8, flat_map, string_bytes}
use Rattle.lc_text.specs.Quoting.{quote_byte}
use Rattle.lc_text.proofs.quoting.push_each_quoted.Given as goal

abbrev pub invariant-loop-c : goal.invariant-loop-c
invariant-loop-c l =
    string_bytes l.text ≡ string_bytes l.initial.text ++ flat_map quote_byte (flat_map encode_utf8 l.yielded)

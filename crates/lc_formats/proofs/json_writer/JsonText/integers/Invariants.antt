use Rattle.std.proofs.Common.{◌≡◌, ◌++◌, ◌∷◌, [], take, decimal}
use Rattle.std.specs.List.{flat_map}
use Rattle.json.specs.Token.{number}
use Rattle.lc_formats.proofs.json_writer.JsonText.integers.Given as goal

abbrev pub invariant-loop-byte : goal.invariant-loop-byte
invariant-loop-byte l = l.self ≡ l.initial.self ++ flat_map (λ n. number (decimal n) ∷ []) (take l.byte-index l.bytes)

use Rattle.std.proofs.Common.{◌≡◌, [], false, take}
use Rattle.std.specs.{List.list_any, Str.bytes_eq}
use Rattle.lc_sheet.specs.Keys.{key_name, keys}
use Rattle.lc_arguments.proofs.table.key_named.Given as goal

abbrev pub invariant-loop-key : goal.invariant-loop-key
invariant-loop-key l = list_any (λ k. bytes_eq (key_name [] k) l.name) (take l.key-index keys) ≡ false

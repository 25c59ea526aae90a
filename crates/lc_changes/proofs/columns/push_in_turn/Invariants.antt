use Rattle.std.proofs.Common.{◌≡◌, ◌++◌, flat_map, take}
use Rattle.lc_changes.specs.ChangeColumns.{in_turn}
use Rattle.lc_changes.proofs.columns.push_in_turn.Given as goal

abbrev pub invariant-loop-value : goal.invariant-loop-value
invariant-loop-value l = l.columns.items ≡ l.initial.columns.items ++ flat_map in_turn (take l.value-index l.values)

use Rattle.std.proofs.Common.{◌≡◌}
use Rattle.lc_changes.specs.ChangeColumns.{compared_attributes}
use Rattle.lc_changes.proofs.columns.recorded_values.Given as goal

abbrev pub invariant-loop-place : goal.invariant-loop-place
invariant-loop-place l = l.values.items ≡ compared_attributes l.place

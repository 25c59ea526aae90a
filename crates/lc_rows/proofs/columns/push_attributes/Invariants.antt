use Rattle.std.proofs.Common.{◌≡◌, ◌++◌, map}
use Rattle.std.specs.List.{range_with_len}
use Rattle.lc_sheet.specs.declared.{column.Column.TheVariants.Key, key.Key.TheVariants.Attribute}
use Rattle.lc_rows.proofs.columns.push_attributes.Given as goal

abbrev pub invariant-loop-place : goal.invariant-loop-place
invariant-loop-place l = l.columns.items ≡ l.initial.columns.items ++ map (λ n. Key (Attribute n)) (range_with_len 0 l.place)

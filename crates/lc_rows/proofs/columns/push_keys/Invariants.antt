use Rattle.std.proofs.Common.{◌≡◌, ◌++◌, flat_map, take}
use Rattle.lc_sheet.specs.{Keys.report_keys, declared.column.Column.TheVariants.Key}
use Rattle.lc_rows.specs.SheetColumns.{column_if, shows_key}
use Rattle.lc_rows.proofs.columns.push_keys.Given as goal

abbrev pub invariant-loop-key : goal.invariant-loop-key
invariant-loop-key l =
    l.columns.items ≡ l.initial.columns.items ++ flat_map (λ k. column_if (shows_key l.all l.by k) (Key k)) (take l.key-index report_keys)

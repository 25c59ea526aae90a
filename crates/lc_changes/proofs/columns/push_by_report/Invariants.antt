use Rattle.std.proofs.Common.{◌≡◌, ◌++◌, map, take}
use Rattle.lc_sheet.specs.declared.column.Column.TheVariants.{New, Old}
use Rattle.lc_changes.proofs.columns.push_by_report.Given as goal

abbrev pub invariant-loop-value : goal.invariant-loop-value
invariant-loop-value l =
    (l.columns.items ≡ l.initial.columns.items ++ map Old (take l.value-index l.values))
    × (l.news.items ≡ map New (take l.value-index l.values))

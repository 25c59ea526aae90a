use Rattle.std.proofs.Common.{◌≡◌, map, take}
use Rattle.lc_sheet.specs.AttributeColumns.{attribute_of}
use Rattle.lc_program.proofs.filters.asked_by.Given as goal

abbrev pub invariant-loop-column : goal.invariant-loop-column
invariant-loop-column l =
    map (λ word. word.items) l.asked.items ≡ map (λ column. attribute_of column.now) (take l.column-index l.columns)

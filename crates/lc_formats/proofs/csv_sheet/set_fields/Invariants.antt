use Rattle.std.proofs.Common.{◌≡◌, ◌++◌, map, take}
use Rattle.lc_formats.specs.Csv.{field_of}
use Rattle.lc_formats.proofs.csv_sheet.set_fields.Given as goal

abbrev pub invariant-loop-column : goal.invariant-loop-column
invariant-loop-column g l =
    l.fields ≡ l.initial.fields ++ map (λ column. field_of (g.L.Lines.value_in l.form l.line column)) (take l.column-index l.columns)

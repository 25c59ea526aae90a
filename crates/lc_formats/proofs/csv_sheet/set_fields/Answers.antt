use Rattle.std.proofs.{Common.{◌∙◌, List, ℕ, ap₂, ◌++◌, map, sym, take_all}, lemmas.Simd.map-map}
use Rattle.lc_formats.specs.Csv.{field_of}
use Rattle.lc_sheet.specs.declared.column.Column.{Column}
use Rattle.lc_formats.proofs.csv_sheet.set_fields.Goals as goal

pub returns : goal.returns
returns g c =
    let value = g.L.Lines.value_in c.args.form c.args.line.now in
    c.loop-column.invariant
    ∙ ap₂ (λ (fs : List (List ℕ)) (cs : List Column). fs ++ map (λ column. field_of (value column)) cs) c.clear.ensures
    (take_all c.loop-column.column-index c.args.columns.now c.loop-column-test.false)
    ∙ sym (map-map field_of value c.args.columns.now)

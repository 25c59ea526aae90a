use Rattle.std.proofs.Common.{◌≡◌, ◌++◌, take}
use Rattle.std.specs.List.{flat_map}
use Rattle.lc_formats.specs.{Tsv.field_of, TsvParts.after_tab}
use Rattle.lc_formats.proofs.tsv.push_fields.Given as goal

abbrev pub invariant-loop-column : goal.invariant-loop-column
invariant-loop-column g l =
    l.text.items
    ≡ l.initial.text.items
    ++ flat_map (λ column. after_tab (field_of (g.L.Lines.value_in l.form l.line column))) (take l.column-index l.columns)

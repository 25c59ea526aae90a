use Rattle.std.proofs.Common.{◌≡◌, ◌++◌, take}
use Rattle.std.specs.List.{flat_map}
use Rattle.lc_sheet.specs.ColumnWords.{column_word}
use Rattle.lc_formats.specs.{JsonLines.value_members, JsonTokens.members_tokens_of}
use Rattle.lc_formats.proofs.json_values.write_columns.Given as goal

abbrev pub invariant-loop-column : goal.invariant-loop-column
invariant-loop-column g l =
    l.text
    ≡ l.initial.text
    ++ flat_map (λ c. members_tokens_of (value_members (column_word l.attributes c) (g.L.Lines.value_in l.form l.line c)))
    (take l.column-index l.columns)

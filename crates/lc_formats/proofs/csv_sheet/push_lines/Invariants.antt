use Rattle.std.proofs.Common.{◌≡◌, ◌++◌, map, take}
use Rattle.std.specs.List.{flat_map}
use Rattle.lc_sheet.specs.Sheets.{line_of}
use Rattle.lc_formats.specs.{Csv.field_of, CsvText.record_text}
use Rattle.lc_formats.proofs.csv_sheet.push_lines.Given as goal

abbrev pub invariant-loop-line : goal.invariant-loop-line
invariant-loop-line g l =
    l.text
    ≡ l.initial.text
    ++ flat_map (λ line. record_text (map field_of (line_of (g.L.Lines.value_in l.form) l.columns line))) (take l.line-index l.lines)

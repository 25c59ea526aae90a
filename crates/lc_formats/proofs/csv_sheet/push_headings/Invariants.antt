use Rattle.std.proofs.Common.{◌≡◌, ◌++◌, map, take}
use Rattle.lc_formats.specs.Csv.{header_field}
use Rattle.lc_formats.proofs.csv_sheet.push_headings.Given as goal

abbrev pub invariant-loop-column : goal.invariant-loop-column
invariant-loop-column l = l.fields ≡ l.initial.fields ++ map (header_field l.attributes) (take l.column-index l.columns)

use Rattle.std.proofs.Common.{◌≡◌, ◌++◌, length, map, string_bytes}
use Rattle.lc_sheet.specs.Sheets.{lines_of}
use Rattle.lc_formats.specs.{Cells.line_cells, Columns.lines_in}
use Rattle.lc_formats.proofs.section_lines.push_lines.Given as goal

abbrev pub invariant-lines : goal.invariant-lines
invariant-lines g l =
    string_bytes l.text ++ lines_in l.widths (map (line_cells l.bar l.columns) (lines_of (g.L.Lines.value_in l.form) l.columns l.rest))
    ≡ string_bytes l.initial.text
    ++ lines_in l.widths (map (line_cells l.bar l.columns) (lines_of (g.L.Lines.value_in l.form) l.columns l.initial.rest))

abbrev pub decreases-lines : goal.decreases-lines
decreases-lines g l = length l.rest

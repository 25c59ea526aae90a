use Rattle.std.proofs.Common.{◌≡◌, length, map}
use Rattle.lc_sheet.specs.Sheets.{lines_of}
use Rattle.lc_formats.specs.{Cells.line_cells, Columns.widened}
use Rattle.lc_formats.proofs.section_lines.fit_lines.Given as goal

abbrev pub invariant-lines : goal.invariant-lines
invariant-lines g l =
    widened l.widths (map (line_cells l.bar l.columns) (lines_of (g.L.Lines.value_in l.form) l.columns l.rest))
    ≡ widened l.initial.widths (map (line_cells l.bar l.columns) (lines_of (g.L.Lines.value_in l.form) l.columns l.initial.rest))

abbrev pub decreases-lines : goal.decreases-lines
decreases-lines g l = length l.rest

use Rattle.std.proofs.Common.{◌≡◌, ◌++◌, length}
use Rattle.lc_sheet.specs.Sheets.{line_of}
use Rattle.lc_formats.specs.Cells.{cells_of, line_cells}
use Rattle.lc_formats.proofs.cells.set_cells.Given as goal

abbrev pub invariant-columns : goal.invariant-columns
invariant-columns g l =
    cells_of l.cells.items ++ line_cells l.bar l.rest (line_of (g.L.Lines.value_in l.form) l.rest l.line)
    ≡ cells_of l.initial.cells.items ++ line_cells l.bar l.columns (line_of (g.L.Lines.value_in l.form) l.columns l.line)

abbrev pub decreases-columns : goal.decreases-columns
decreases-columns g l = length l.rest

use Rattle.std.proofs.Common.{◌≡◌, ◌++◌, length}
use Rattle.lc_sheet.specs.Sheets.{line_of}
use Rattle.lc_picture.specs.{Chart.cells_in, Pieces.text_of}
use Rattle.lc_picture.proofs.cells.push_cells.Given as goal

abbrev pub invariant-columns : goal.invariant-columns
invariant-columns g l =
    l.text.items ++ text_of (cells_in (line_of (g.L.Lines.value_in l.form) l.rest l.line))
    ≡ l.initial.text.items ++ text_of (cells_in (line_of (g.L.Lines.value_in l.form) l.columns l.line))

abbrev pub decreases-columns : goal.decreases-columns
decreases-columns g l = length l.rest

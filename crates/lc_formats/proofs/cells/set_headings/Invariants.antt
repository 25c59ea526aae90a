use Rattle.std.proofs.Common.{◌≡◌, ◌++◌, length}
use Rattle.lc_formats.specs.Cells.{cells_of, heading_cells}
use Rattle.lc_formats.proofs.cells.set_headings.Given as goal

abbrev pub invariant-columns : goal.invariant-columns
invariant-columns l =
    cells_of l.cells.items ++ heading_cells l.attributes l.rest ≡ cells_of l.initial.cells.items ++ heading_cells l.attributes l.columns

abbrev pub decreases-columns : goal.decreases-columns
decreases-columns l = length l.rest

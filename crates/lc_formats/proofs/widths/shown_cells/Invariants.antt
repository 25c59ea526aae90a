use Rattle.std.proofs.Common.{◌≡◌, ◌≤◌, length, take}
use Rattle.lc_formats.specs.{Cells.cells_of, Columns.shown_cells}
use Rattle.lc_formats.proofs.widths.shown_cells.Given as goal

abbrev pub invariant-count : goal.invariant-count
invariant-count l =
    (l.count ≤ length l.cells) × (shown_cells (cells_of (take l.count l.cells)) ≡ shown_cells (cells_of l.cells))

abbrev pub decreases-count : goal.decreases-count
decreases-count l = l.count

use Rattle.std.proofs.Common.{◌≡◌, take}
use Rattle.lc_formats.specs.{Cells.cells_of, Columns.{cell_widths, wider}}
use Rattle.lc_formats.proofs.widths.Widths.fit.Given as goal

abbrev pub invariant-loop-column : goal.invariant-loop-column
invariant-loop-column l = l.self ≡ wider l.initial.self (cell_widths (cells_of (take l.column l.cells)))

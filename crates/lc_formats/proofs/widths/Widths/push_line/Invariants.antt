use Rattle.std.proofs.Common.{◌≡◌, ◌++◌, drop, string_bytes}
use Rattle.lc_formats.specs.{Cells.cells_of, Columns.cells_from}
use Rattle.lc_formats.proofs.widths.Widths.push_line.Given as goal

abbrev pub invariant-loop-column : goal.invariant-loop-column
invariant-loop-column l =
    string_bytes l.text ++ cells_from l.column l.self (cells_of (drop l.column l.shown))
    ≡ string_bytes l.initial.text ++ cells_from 0 l.self (cells_of l.shown)

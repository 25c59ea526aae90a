use Rattle.std.proofs.Common.{◌≡◌, ◌++◌, drop}
use Rattle.lc_sheet.specs.Sheets.{lines_of}
use Rattle.lc_picture.specs.{Chart.coloured_lines, Pieces.text_of}
use Rattle.lc_picture.proofs.chart.push_coloured_lines.Given as goal

abbrev pub invariant-loop-place : goal.invariant-loop-place
invariant-loop-place g l =
    l.text.items ++ text_of (coloured_lines l.place (lines_of (g.L.Lines.value_in l.form) l.columns (drop l.place l.lines)))
    ≡ l.initial.text.items ++ text_of (coloured_lines 0 (lines_of (g.L.Lines.value_in l.form) l.columns l.lines))

use Rattle.std.proofs.Common.{◌≡◌, ◌++◌, length}
use Rattle.lc_sheet.specs.Sheets.{lines_of}
use Rattle.lc_picture.specs.{Chart.plain_lines, Pieces.text_of}
use Rattle.lc_picture.proofs.chart.push_plain_lines.Given as goal

abbrev pub invariant-lines : goal.invariant-lines
invariant-lines g l =
    l.text.items ++ text_of (plain_lines (lines_of (g.L.Lines.value_in l.form) l.columns l.rest))
    ≡ l.initial.text.items ++ text_of (plain_lines (lines_of (g.L.Lines.value_in l.form) l.columns l.initial.rest))

abbrev pub decreases-lines : goal.decreases-lines
decreases-lines g l = length l.rest

use Rattle.std.proofs.Common.{◌≡◌, ◌++◌, flat_map, length}
use Rattle.lc_sheet.specs.Sheets.{line_of}
use Rattle.lc_formats.specs.MarkdownCells.{value_cell}
use Rattle.lc_formats.proofs.markdown_line.push_line.Given as goal

abbrev pub invariant-columns : goal.invariant-columns
invariant-columns g l =
    l.text.items ++ flat_map (value_cell l.weight) (line_of (g.L.Lines.value_in l.form) l.rest l.line)
    ≡ l.initial.text.items ++ flat_map (value_cell l.weight) (line_of (g.L.Lines.value_in l.form) l.columns l.line)

abbrev pub decreases-columns : goal.decreases-columns
decreases-columns g l = length l.rest

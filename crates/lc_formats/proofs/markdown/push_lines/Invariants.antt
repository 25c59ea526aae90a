use Rattle.std.proofs.Common.{◌≡◌, ◌++◌, length}
use Rattle.lc_sheet.specs.Sheets.{lines_of}
use Rattle.lc_formats.specs.MarkdownText.{lines_with}
use Rattle.lc_formats.proofs.markdown.push_lines.Given as goal

abbrev pub invariant-lines : goal.invariant-lines
invariant-lines g l =
    l.text.items ++ lines_with l.weight (lines_of (g.L.Lines.value_in l.form) l.columns l.rest)
    ≡ l.initial.text.items ++ lines_with l.weight (lines_of (g.L.Lines.value_in l.form) l.columns l.initial.rest)

abbrev pub decreases-lines : goal.decreases-lines
decreases-lines g l = length l.rest

use Rattle.std.proofs.Common.{◌≡◌, length}
use Rattle.lc_rows.specs.SheetLaws.{number_at}
use Rattle.lc_sheet.specs.Sheets.{line_of}
use Rattle.lc_picture.proofs.head.number_at.Given as goal

abbrev pub invariant-columns : goal.invariant-columns
invariant-columns g l =
    number_at l.number l.rest (line_of (g.L.Lines.value_in l.form) l.rest l.line)
    ≡ number_at l.number l.columns (line_of (g.L.Lines.value_in l.form) l.columns l.line)

abbrev pub decreases-columns : goal.decreases-columns
decreases-columns g l = length l.rest

use Rattle.std.proofs.Common.{◌≡◌, length}
use Rattle.lc_sheet.specs.Sheets.{line_of}
use Rattle.lc_formats.specs.JsonLines.{lacks}
use Rattle.lc_formats.proofs.json_sides.lacks.Given as goal

abbrev pub invariant-columns : goal.invariant-columns
invariant-columns g l =
    lacks l.part l.rest (line_of (g.L.Lines.value_in l.form) l.rest l.line)
    ≡ lacks l.part l.columns (line_of (g.L.Lines.value_in l.form) l.columns l.line)

abbrev pub decreases-columns : goal.decreases-columns
decreases-columns g l = length l.rest

use Rattle.std.proofs.Common.{◌≡◌, drop, max}
use Rattle.lc_rows.specs.Sheets.{largest}
use Rattle.lc_rows.proofs.shown_sheet.largest.Given as goal

abbrev pub invariant-loop-row : goal.invariant-loop-row
invariant-loop-row l = max (largest l.number (drop l.row-index l.rows)) l.most ≡ largest l.number l.rows

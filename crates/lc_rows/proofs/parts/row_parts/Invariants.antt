use Rattle.std.proofs.Common.{◌≡◌, map, take}
use Rattle.lc_rows.specs.ShownRows.{part_of_row}
use Rattle.lc_rows.proofs.parts.row_parts.Given as goal

abbrev pub invariant-loop-row : goal.invariant-loop-row
invariant-loop-row l = l.parts.items ≡ map (part_of_row l.by) (take l.row-index l.rows)

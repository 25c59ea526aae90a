use Rattle.std.proofs.Common.{◌≡◌, take}
use Rattle.std.specs.List.{flat_map}
use Rattle.lc_rows.specs.LevelParts.{next_above}
use Rattle.lc_rows.proofs.directory_tree.rows_above.Given as goal

abbrev pub invariant-loop-row : goal.invariant-loop-row
invariant-loop-row l = l.parts.items ≡ flat_map (next_above l.depth) (take l.row-index l.rows)

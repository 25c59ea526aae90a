use Rattle.std.proofs.Common.{◌≡◌, ◌++◌, map, take}
use Rattle.lc_rows.specs.LevelParts.{own_row}
use Rattle.lc_rows.proofs.directory_tree.push_own.Given as goal

abbrev pub invariant-loop-row : goal.invariant-loop-row
invariant-loop-row l = l.all.items ≡ l.initial.all.items ++ map (own_row l.depth) (take l.row-index l.rows)

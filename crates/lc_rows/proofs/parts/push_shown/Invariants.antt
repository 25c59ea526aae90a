use Rattle.std.proofs.Common.{◌≡◌, ◌++◌, take}
use Rattle.lc_rows.proofs.parts.push_shown.Given as goal

abbrev pub invariant-loop-row : goal.invariant-loop-row
invariant-loop-row l = l.parts.items ≡ l.initial.parts.items ++ take l.row-index l.rows

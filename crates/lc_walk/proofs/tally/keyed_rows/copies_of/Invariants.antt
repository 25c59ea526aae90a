use Rattle.std.proofs.Common.{◌≡◌, take}
use Rattle.lc_walk.proofs.tally.keyed_rows.copies_of.Given as goal

abbrev pub invariant-loop-row : goal.invariant-loop-row
invariant-loop-row l = l.copies.items ≡ take l.row-index l.row-items

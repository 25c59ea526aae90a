use Rattle.std.proofs.Common.{◌≡◌, take}
use Rattle.lc_changes.specs.Changes.{new_sums_of, old_sums_of}
use Rattle.lc_changes.proofs.sums.both_sums_of.Given as goal

abbrev pub invariant-loop-row : goal.invariant-loop-row
invariant-loop-row l = (l.old ≡ old_sums_of (take l.row-index l.rows)) × (l.new ≡ new_sums_of (take l.row-index l.rows))

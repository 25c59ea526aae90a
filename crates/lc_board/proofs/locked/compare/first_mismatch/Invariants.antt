use Rattle.std.proofs.Common.{◌≡◌, ℕ, ◌<◌, Some, slice_get}
use Rattle.lc_board.specs.ComparedPass.{IsSame}
use Rattle.lc_board.proofs.locked.compare.first_mismatch.Given as goal

abbrev pub invariant-loop-worker : goal.invariant-loop-worker
invariant-loop-worker g l = (k : ℕ) (p : _) → k < l.worker → slice_get l.passes k ≡ Some p → IsSame k l.history p.notes.items

use Rattle.std.proofs.Common.{◌≢◌, ℕ, ◌<◌, slice_get, Some}
use Rattle.lc_board.proofs.plain.scans.is_any_held.Given as goal

abbrev pub invariant-loop-at : goal.invariant-loop-at
invariant-loop-at l = (w i : ℕ) → w < l.at → slice_get l.held w ≢ Some (Some i)

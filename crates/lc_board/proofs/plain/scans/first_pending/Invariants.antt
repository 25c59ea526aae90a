use Rattle.std.proofs.Common.{ℕ, ◌<◌, slice_get}
use Rattle.lc_board.specs.PlainCalls.{IsPending}
use Rattle.lc_board.proofs.plain.scans.first_pending.Given as goal

abbrev pub invariant-loop-at : goal.invariant-loop-at
invariant-loop-at g l = (k : ℕ) → k < l.at → ¬ IsPending (slice_get l.cells k)

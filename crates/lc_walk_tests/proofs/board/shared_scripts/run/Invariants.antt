use Rattle.std.proofs.Common.{◌≡◌, ℕ, Some, slice_get, vec_len}
use Rattle.lc_walk_tests.proofs.board.shared_scripts.run.Given as goal

abbrev pub invariant-loop-call : goal.invariant-loop-call
invariant-loop-call g l =
    (vec_len l.passes ≡ l.fn.workers)
    × ((w : ℕ) (p : _) → slice_get l.passes.items w ≡ Some p → g.B.Shared.owns l.board p × ((g.B.Pass.Token.view p).worker ≡ w))

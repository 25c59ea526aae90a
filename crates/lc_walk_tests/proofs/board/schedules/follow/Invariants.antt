use Rattle.std.proofs.Common.{◌≡◌, ℕ, Some, slice_get, vec_len}
use Rattle.lc_walk_tests.proofs.board.schedules.follow.Given as goal

abbrev pub invariant-loop-turn : goal.invariant-loop-turn
invariant-loop-turn g l =
    (vec_len l.passes ≡ 2)
    × ((w : ℕ) (p : _) → slice_get l.passes.items w ≡ Some p → g.B.Shared.owns l.board p × ((g.B.Pass.Token.view p).worker ≡ w))

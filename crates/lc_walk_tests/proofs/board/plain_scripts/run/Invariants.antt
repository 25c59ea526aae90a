use Rattle.std.proofs.Common.{◌≡◌}
use Rattle.lc_walk_tests.proofs.board.plain_scripts.run.Given as goal

abbrev pub invariant-loop-call : goal.invariant-loop-call
invariant-loop-call g l = l.board.held ≡ l.held.items

use Rattle.std.proofs.Common.{length}
use Rattle.lc_board.specs.ComparedPass.{IsSame}
use Rattle.lc_board.proofs.locked.compare.matches.Given as goal

abbrev pub invariant-loop-event : goal.invariant-loop-event
invariant-loop-event g l = record {
  down : IsSame l.fn.worker l.fn.history l.fn.notes → IsSame l.fn.worker l.rest l.own;
  up : IsSame l.fn.worker l.rest l.own → IsSame l.fn.worker l.fn.history l.fn.notes;
}

abbrev pub decreases-loop-event : goal.decreases-loop-event
decreases-loop-event g l = length l.rest

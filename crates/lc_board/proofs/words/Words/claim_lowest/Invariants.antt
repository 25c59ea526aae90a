use Rattle.std.proofs.Common.{◌≡◌, ◌-◌, None}
use Rattle.lc_board.specs.{WordBounds.TakesSteps, WordsBoard.IsSamePass}
use Rattle.lc_board.proofs.{WordBounds.ScansTo, WordScans.IsScan}
use Rattle.lc_board.proofs.words.Words.claim_lowest.Given as goal

abbrev pub invariant-loop-number : goal.invariant-loop-number
invariant-loop-number g l = record {
  same : IsSamePass l.initial.pass l.pass;
  holding : l.pass.holding ≡ None;
  scan : IsScan l.self.capacity l.number l.busy l.initial.pass.seat.me.0 l.pass.seat.me.0;
  steps : TakesSteps (ScansTo l.self.capacity l.number l.initial.pass.seat.me.0) l.initial.pass.seat.me.0 l.pass.seat.me.0;
}

abbrev pub decreases-loop-number : goal.decreases-loop-number
decreases-loop-number g l = l.self.capacity - l.number

use Rattle.std.proofs.Common.{◌≡◌, ◌-◌}
use Rattle.lc_board.specs.{WordBounds.TakesSteps, WordSteps.Extends, WordsBoard.IsSamePass}
use Rattle.lc_board.proofs.WordBounds.{PostsTo}
use Rattle.lc_board.proofs.words.Words.post.Given as goal

abbrev pub invariant-loop-pass : goal.invariant-loop-pass
invariant-loop-pass g l = record {
  same : IsSamePass l.initial.pass l.pass;
  holding : l.pass.holding ≡ l.initial.pass.holding;
  posted : l.pass.posted ≡ l.initial.pass.posted;
  sees : Extends l.initial.pass.seat.me.0 l.pass.seat.me.0;
  job : l.job ≡ l.initial.job;
  steps : TakesSteps (PostsTo l.pass.front) l.initial.pass.seat.me.0 l.pass.seat.me.0;
}

abbrev pub decreases-loop-pass : goal.decreases-loop-pass
decreases-loop-pass g l = l.self.capacity - l.pass.front

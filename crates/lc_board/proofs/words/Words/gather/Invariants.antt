use Rattle.std.proofs.Common.{◌≡◌, ℕ, ◌<◌, ◌≤◌, ◌+◌, map, slice_get, vec_len}
use Rattle.lc_board.specs.{WordsBoard.{IsPassOf, known, told}, WordClose.HasTaken}
use Rattle.lc_board.proofs.words.Words.gather.Given as goal

abbrev pub invariant-loop-other : goal.invariant-loop-other
invariant-loop-other g l = record {
  own : IsPassOf l.self l.pass;
  fewer : vec_len l.passes + 1 ≤ l.self.workers;
  same : (w : ℕ) → w < vec_len l.passes → slice_get l.passes.items w ≡ slice_get l.fn.passes.items w;
  has : HasTaken l.self.capacity (map told l.fn.passes.items) (vec_len l.passes) (known l.pass);
}

abbrev pub decreases-loop-other : goal.decreases-loop-other
decreases-loop-other g l = vec_len l.passes

use Rattle.std.proofs.{Common.{arith, below_more, refl, slice_get}, lemmas.Option.slice_get_read}
use Rattle.lc_board.specs.PlainCalls.{IsPending}
use Rattle.lc_board.proofs.PlainReplies.{left_inside}
use Rattle.lc_board.proofs.plain.scans.first_pending.Goals as goal

pub loop-at-preserved : goal.loop-at-preserved
loop-at-preserved g c =
    let here = slice_get_read _ _ _ _ refl c.loop-at-test.true c.index-cells-at.is in
    below_more (λ k. ¬ IsPending (slice_get c.args.cells.now k)) c.loop-at.at c.loop-at.invariant (rw here c.if-is_pending.ensures)

pub returns-then-is_pending-clause-some : goal.returns-then-is_pending-clause-some
returns-then-is_pending-clause-some g c = let here = slice_get_read _ _ _ _ refl c.loop-at-test.true c.index-cells-at.is in
    (rw here c.if-is_pending.ensures, c.loop-at.invariant)

pub returns-clause-none : goal.returns-clause-none
returns-clause-none g c k left = c.loop-at.invariant k (omega (arith, left_inside c.args.cells.now k left, c.loop-at-test.false)) left

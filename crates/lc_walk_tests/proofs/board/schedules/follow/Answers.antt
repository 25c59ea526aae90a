use Rattle.std.proofs.{Common.{◌<◌, length, refl, ap, arith}, lemmas.Option.slice_get_read}
use Rattle.lc_board.proofs.ReturnedPasses.{used_in_order}
use Rattle.lc_walk_tests.proofs.board.schedules.follow.Goals as goal

pub loop-turn-init : goal.loop-turn-init
loop-turn-init g c = (c.in_ok-board.ensures.count, λ w p at. let s = c.in_ok-board.ensures.passes w p at in (s.0, ap (λ v. v.worker) s.1))

pub step-requires-after_bounds : goal.step-requires-after_bounds
step-requires-after_bounds g c κs within =
    let low : c.worker_at-worker.result < length c.loop-turn.passes.items = omega (arith, c.loop-turn.passes.ok.0) in
    (c.loop-turn.invariant.1 _ _ (slice_get_read _ _ _ _ refl low c.index_mut.ensures.value)).0

pub loop-turn-preserved : goal.loop-turn-preserved
loop-turn-preserved g c =
    let low : c.worker_at-worker.result < length c.loop-turn.passes.items = omega (arith, c.loop-turn.passes.ok.0) in
    let here = slice_get_read _ _ _ _ refl low c.index_mut.ensures.value in (
      c.loop-turn.invariant.0,
      used_in_order g.B.Pass.Token.view
          (g.B.Shared.owns c.in_ok-board.board) c.loop-turn.passes.items _ _ c.step.new.pass here c.loop-turn.invariant.1
          c.step.ensures.pass c.step.ensures.worker,
    )

use Rattle.std.proofs.{Common.{◌<◌, length, refl, ap, arith}, lemmas.Option.slice_get_read}
use Rattle.lc_board.proofs.ReturnedPasses.{used_in_order}
use Rattle.lc_walk_tests.proofs.board.shared_scripts.run.Goals as goal

pub loop-call-init : goal.loop-call-init
loop-call-init g c = (c.in_ok-board.ensures.count, λ w p at. let s = c.in_ok-board.ensures.passes w p at in (s.0, ap (λ v. v.worker) s.1))

pub expect-requires-after_bounds : goal.expect-requires-after_bounds
expect-requires-after_bounds g c κs within =
    let low : c.worker-worker.result < length c.loop-call.passes.items = omega (arith, c.loop-call.passes.ok.0) in
    (c.loop-call.invariant.1 _ _ (slice_get_read _ _ _ _ refl low c.index_mut.ensures.value)).0

pub loop-call-preserved : goal.loop-call-preserved
loop-call-preserved g c =
    let low : c.worker-worker.result < length c.loop-call.passes.items = omega (arith, c.loop-call.passes.ok.0) in
    let here = slice_get_read _ _ _ _ refl low c.index_mut.ensures.value in (
      c.loop-call.invariant.0,
      used_in_order g.B.Pass.Token.view
          (g.B.Shared.owns c.in_ok-board.board) c.loop-call.passes.items _ _ c.expect.new.pass here c.loop-call.invariant.1
          c.expect.ensures.pass c.expect.ensures.worker,
    )

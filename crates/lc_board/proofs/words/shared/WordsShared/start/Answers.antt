use Rattle.std.proofs.{Common.{◌<◌, ◌+◌, ◌∙◌, length, slice_get, refl, sym, ap, arith}, lemmas.Option.slice_get_read}
use Rattle.lc_board.proofs.WordStarts.{one_more}
use Rattle.lc_board.proofs.words.shared.WordsShared.start.Goals as goal

pub another-pass-requires-clause-board : goal.another-pass-requires-clause-board
another-pass-requires-clause-board g c =
    let inv = c.loop-worker.invariant in
    let low : 0 < length c.loop-worker.passes.items = omega (arith, c.loop-worker.passes.ok.0, inv.0) in
    (inv.1 0 _ (slice_get_read _ _ _ _ refl low c.index_mut.ensures.value)).0.0

pub another-pass-requires-clause-next : goal.another-pass-requires-clause-next
another-pass-requires-clause-next g c =
    let inv = c.loop-worker.invariant in
    let low : 0 < length c.loop-worker.passes.items = omega (arith, c.loop-worker.passes.ok.0, inv.0) in
    let m = inv.2 _ (slice_get_read _ _ _ _ refl low c.index_mut.ensures.value) in
    let all = c.in_ok-board.ensures.board.1 in
    (omega (arith, inv.0, low), omega (arith, c.loop-worker-test.true, all), m.0, m.1 ∙ sym all)

pub loop-worker-preserved : goal.loop-worker-preserved
loop-worker-preserved g c =
    let inv = c.loop-worker.invariant in
    let low : 0 < length c.loop-worker.passes.items = omega (arith, c.loop-worker.passes.ok.0, inv.0) in
    let at = slice_get_read _ _ _ _ refl low c.index_mut.ensures.value in
    let others = c.another-pass.ensures.other in
    let same = c.another-pass.ensures.same in
    let items = c.in_ok-push-2.ensures.items in
    let more = one_more c.in_ok-board.board c.loop-worker.passes.items c.loop-worker.worker c.args.workers c.index_mut.result.now
    c.another-pass.new.pass c.another-pass.result at
    (sym c.loop-worker.passes.ok.0 ∙ inv.0) (omega
    (arith, low, c.loop-worker.passes.ok.0, inv.0)) same.0 same.2 others.0 others.1 others.3 others.4 inv.1 (inv.2 _ at) in (
      c.in_ok-push-2.ensures.len ∙ ap (λ k. k + 1) inv.0,
      λ w p e. more.0 w p (ap (λ z. slice_get z w) (sym items) ∙ e),
      λ p e. more.1 p (ap (λ z. slice_get z 0) (sym items) ∙ e),
    )

pub returns-clause-passes : goal.returns-clause-passes
returns-clause-passes g c w p at = let new = c.loop-worker.invariant.1 w p at in (new.0, new.1)

pub returns-clause-unseen : goal.returns-clause-unseen
returns-clause-unseen g c w p at = (c.loop-worker.invariant.1 w p at).2

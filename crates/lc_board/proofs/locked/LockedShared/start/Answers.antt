use Rattle.std.proofs.Common.{◌≡◌, Some, ◌∙◌, ap, arith, length, subst, sym}
use Rattle.lc_board.specs.{Pass.new_pass, LockedBoard.told}
use Rattle.lc_board.proofs.Places.{each_push}
use Rattle.lc_board.proofs.locked.LockedShared.start.Goals as goal

pub loop-worker-preserved : goal.loop-worker-preserved
loop-worker-preserved g c =
    let inv = c.loop-worker.invariant in
    let count : length c.loop-worker.passes.items ≡ c.loop-worker.worker = omega (arith, c.loop-worker.passes.ok.0, inv.0) in (
      omega (arith, c.in_ok-push.ensures.len, inv.0),
      rw c.in_ok-push.ensures.items
          (λ k p at. each_push (λ k o. (p : _) → o ≡ Some p → told p ≡ new_pass k) c.loop-worker.passes.items c.new.result
          (λ p here.
          let is : c.new.result ≡ p = cc here in
          subst (λ q. told q ≡ new_pass (length c.loop-worker.passes.items)) is (c.new.ensures ∙ ap new_pass (sym count)))
          (λ k _. inv.1 k) k p at),
    )

pub returns-clause-passes : goal.returns-clause-passes
returns-clause-passes g c w p at = (tt, c.loop-worker.invariant.1 w p at)

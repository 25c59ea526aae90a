use Rattle.std.proofs.Common.{◌≡◌, Some, slice_get, refl, sym, ◌∙◌, arith, subst, below_more}
use Rattle.std.proofs.lemmas.Option.{slice_get_read, slice_get_within}
use Rattle.lc_board.specs.ComparedPass.{IsSame}
use Rattle.lc_board.proofs.locked.compare.first_mismatch.Goals as goal

pub returns-then-not-matches-clause-some : goal.returns-then-not-matches-clause-some
returns-then-not-matches-clause-some g c = (
  c.index-passes-worker.result,
  slice_get_read _ _ _ _ refl c.loop-worker-test.true c.index-passes-worker.is,
  rw c.notes.ensures at
      (c.if-not-matches.ensures.no refl),
)

pub loop-worker-preserved : goal.loop-worker-preserved
loop-worker-preserved g c k p low at =
    let own = slice_get_read _ _ _ _ refl c.loop-worker-test.true c.index-passes-worker.is in
    let same = rw c.notes.ensures at (c.if-not-matches.ensures.yes refl) in
    below_more (λ j. (q : _) → slice_get c.args.passes.now j ≡ Some q → IsSame j c.args.history.now q.notes.items) c.loop-worker.worker
    (λ j less q e. c.loop-worker.invariant j q less e)
    (λ q e. let x : Some c.index-passes-worker.result ≡ Some q = sym own ∙ e in let y : c.index-passes-worker.result ≡ q = cc x in
    subst (λ r. IsSame c.loop-worker.worker c.args.history.now r.notes.items) y same)
    k low p at

pub returns-clause-none : goal.returns-clause-none
returns-clause-none g c w p at =
    c.loop-worker.invariant w p (omega (arith, slice_get_within c.args.passes.now w p at, c.loop-worker-test.false)) at

use Rattle.std.proofs.Common.{refl}
use Rattle.lc_walk.specs.WalkOptions.{asked_by}
use Rattle.lc_level.specs.TreeAnswers.{MayAnswer}
use Rattle.lc_walk.proofs.{Working.{works_first, works_claim}, worker.Worker.run.Goals.{in-Over, in-Memory}}
use Rattle.lc_walk.proofs.worker.Worker.run.Goals as goal

pub loop-init : goal.loop-init
loop-init g c = (tt, tt, c.requires, works_first _ _ _ c.new-2.result c.new-2.ensures)

pub loop-preserved-in-Got : goal.loop-preserved-in-Got
loop-preserved-in-Got g c =
    let ask = asked_by c.args.self.now.options.now in
    let may = MayAnswer (g.T.Tree.lists c.args.self.now.reader.tree.now) (g.T.Tree.gives c.args.self.now.reader.tree.now) in (
      tt,
      tt,
      c.serve_or_break_off.ensures.pass,
      c.serve_or_break_off.ensures.goes_on _
          (rw c.claim.ensures.mine (works_claim ask may (g.B.Pass.Token.view c.loop.pass) _ c.loop.tally _ c.loop.invariant.3)),
    )

pub returns-in-loop-clause-worked : goal.returns-in-loop-clause-worked
returns-in-loop-clause-worked g c =
    let ask = asked_by c.args.self.now.options.now in
    let may = MayAnswer (g.T.Tree.lists c.args.self.now.reader.tree.now) (g.T.Tree.gives c.args.self.now.reader.tree.now) in
    rw c.claim.ensures.mine (works_claim ask may (g.B.Pass.Token.view c.loop.pass) _ c.loop.tally _ c.loop.invariant.3)

pub returns-in-loop-clause-end : goal.returns-in-loop-clause-end
returns-in-loop-clause-end g c =
    elim c.match-claim.branch [
      | in-Over w ↦ rw (w.end-is, c.claim.ensures.mine, w.in-Over.is) (_, refl)
      | in-Memory w ↦ rw (w.end-is, c.claim.ensures.mine, w.in-Memory.is) refl
    ]

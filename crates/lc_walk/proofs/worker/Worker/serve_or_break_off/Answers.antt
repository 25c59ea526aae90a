use Rattle.std.proofs.Common.{sym, ◌∙◌, ap}
use Rattle.std.specs.Result.{is_err}
use Rattle.lc_level.specs.TreeAnswers.{MayAnswer}
use Rattle.lc_level.proofs.SomeAnswers.{some_answers}
use Rattle.lc_walk.specs.WalkOptions.{asked_by}
use Rattle.lc_walk.proofs.{RowEnds.serves_unasked, Working.refused_serves, worker.Worker.serve_or_break_off.Goals.in-Some+in-Some-tally}
use Rattle.lc_walk.proofs.worker.Worker.serve_or_break_off.Goals.{in_default}
use Rattle.lc_walk.proofs.worker.Worker.serve_or_break_off.Goals as goal

pub returns-then-is_err-clause-goes_on : goal.returns-then-is_err-clause-goes_on
returns-then-is_err-clause-goes_on g c =
    let law = g.met.T.Tree g.world.𝓛 g.world.𝓜 g.world.𝓡 ((λ s x. x), (λ x. x), (λ x. x), λ x. x) in
    let tree = c.args.self.now.reader.tree.now in
    let ask = asked_by c.args.self.now.options.now in
    let lists = g.T.Tree.lists tree in
    let gives = g.T.Tree.gives tree in
    elim c.match-scratch.branch [
      | in-Some+in-Some-tally w ↦
          rw (w.pass-is, w.in-Some-tally.is)
          (refused_serves ask (MayAnswer lists gives) _ _ _ _ w.serve-served.result
          (ap is_err (sym w.served-is) ∙ sym c.is_err.ensures.value ∙ c.if-is_err.true) w.serve-served.ensures.serves)
      | in_default w ↦
          rw (w.pass-is, w.break_off-served.ensures.mine, w.of.ensures)
          (serves_unasked ask lists gives _ c.args.job c.args.tally.now
          (some_answers lists gives (law.some_listing tree) (law.some_content tree) c.args.job.path) c.requires.1)
    ]

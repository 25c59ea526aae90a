use Rattle.std.proofs.Common.{subst, Err}
use Rattle.lc_level.specs.Opens.{OpensLevel}
use Rattle.lc_level.proofs.SomeAnswers.{some_answers}
use Rattle.lc_level.specs.declared.open_fault.OpenFault.TheVariants as open_fault
use Rattle.lc_walk.specs.WalkOptions.{asked_by}
use Rattle.lc_walk.proofs.RowEnds.{serves_unread, serves_too_deep, serves_faulted}
use Rattle.lc_walk.proofs.worker.Worker.serve.Goals as goal

pub returns-in-Err-Faulted-clause-serves : goal.returns-in-Err-Faulted-clause-serves
returns-in-Err-Faulted-clause-serves g c =
    let ask = asked_by c.args.self.now.options.now in
    let tree = c.args.self.now.reader.tree.now in
    let at_fault = Err (open_fault.Faulted c.in-Err-Faulted.site c.in-Err-Faulted.word) in
    rw (c.fault.ensures.mine, c.of-job-in-Err-Faulted.ensures, c.in-Err-Faulted.site-is, c.in-Err-Faulted.word-is)
    (serves_faulted ask (g.T.Tree.lists tree) (g.T.Tree.gives tree) _ c.args.job c.in-Err-Faulted.site c.in-Err-Faulted.word
    c.args.tally.now c.requires.1
    (subst (λ s. OpensLevel (g.T.Tree.lists tree) (g.T.Tree.gives tree) ask.lists.left_out s c.args.job at_fault) c.args.self.now.selects
    (subst (λ k. OpensLevel (g.T.Tree.lists tree) (g.T.Tree.gives tree) k c.args.self.now.reader.filters.now c.args.job at_fault)
    c.args.self.now.keeps (rw c.in-Err-Faulted.field-0-is at c.in-Err-Faulted.ensures.opens))))

pub returns-in-Err-Memory-clause-serves : goal.returns-in-Err-Memory-clause-serves
returns-in-Err-Memory-clause-serves g c =
    let law = g.met.T.Tree g.world.𝓛 g.world.𝓜 g.world.𝓡 ((λ s x. x), (λ x. x), (λ x. x), λ x. x) in
    let tree = c.args.self.now.reader.tree.now in
    rw (c.break_off.ensures.mine, c.of.ensures)
    (serves_unread (asked_by c.args.self.now.options.now) (g.T.Tree.lists tree) (g.T.Tree.gives tree) _ c.args.job c.args.tally.now
    c.break_off.result
    (some_answers (g.T.Tree.lists tree) (g.T.Tree.gives tree) (law.some_listing tree) (law.some_content tree) c.args.job.path)
    c.requires.1 c.break_off.ensures.memory)

pub returns-in-Err-TooDeep-clause-serves : goal.returns-in-Err-TooDeep-clause-serves
returns-in-Err-TooDeep-clause-serves g c =
    let ask = asked_by c.args.self.now.options.now in
    let tree = c.args.self.now.reader.tree.now in
    let deep = Err open_fault.TooDeep in
    rw (c.break_off-in-Err-TooDeep.ensures.mine, c.of-in-Err-TooDeep.ensures)
    (serves_too_deep ask (g.T.Tree.lists tree) (g.T.Tree.gives tree) _ c.args.job c.args.tally.now
    c.break_off-in-Err-TooDeep.result c.requires.1
    (subst (λ s. OpensLevel (g.T.Tree.lists tree) (g.T.Tree.gives tree) ask.lists.left_out s c.args.job deep) c.args.self.now.selects
    (subst (λ k. OpensLevel (g.T.Tree.lists tree) (g.T.Tree.gives tree) k c.args.self.now.reader.filters.now c.args.job deep)
    c.args.self.now.keeps (rw c.in-Err-TooDeep.field-0-is at c.in-Err-TooDeep.ensures.opens)))
    c.break_off-in-Err-TooDeep.ensures.memory)

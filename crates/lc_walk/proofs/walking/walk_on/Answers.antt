use Rattle.lc_level.specs.TreeAnswers.{MayAnswer}
use Rattle.lc_walk.specs.WalkOptions.{asked_by, top_of}
use Rattle.lc_walk.proofs.FewerWorkers.{answers_of_more}
use Rattle.lc_walk.proofs.walking.walk_on.Goals as goal

pub returns : goal.returns
returns g c =
    answers_of_more (MayAnswer (g.T.Tree.lists c.args.tree.now) (g.T.Tree.gives c.args.tree.now)) (asked_by c.args.options.now)
    c.args.options.now.max_dirs 1 c.args.options.now.threads (top_of c.args.options.now) g.B.Shared.promises
    c.requires.limits.some_thread _ c.walk_by.ensures

use Rattle.lc_walk.proofs.RowTrees.{by_answers}
use Rattle.lc_walk.proofs.laws.reports_are_by_given_answers.Goals as goal

pub returns : goal.returns
returns g c = by_answers (g.T.Tree.lists c.args.tree.now) (g.T.Tree.gives c.args.tree.now)

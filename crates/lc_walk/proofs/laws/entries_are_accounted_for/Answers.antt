use Rattle.lc_walk.proofs.EntryCounts.{entries_law}
use Rattle.lc_walk.proofs.laws.entries_are_accounted_for.Goals as goal

pub returns : goal.returns
returns g c = entries_law (g.T.Tree.lists c.args.tree.now) (g.T.Tree.gives c.args.tree.now)

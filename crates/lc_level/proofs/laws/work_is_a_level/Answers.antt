use Rattle.lc_level.proofs.CountedLevels.{opened_level, counted_level}
use Rattle.lc_level.proofs.laws.work_is_a_level.Goals as goal

pub returns-clause-opened : goal.returns-clause-opened
returns-clause-opened g c =
    λ left_out s j o opened.
    (_, _, opened_level (g.T.Tree.lists c.args.tree.now) (g.T.Tree.gives c.args.tree.now) left_out s j o opened)

pub returns-clause-counted : goal.returns-clause-counted
returns-clause-counted g c =
    λ left_out s j o found opened counted.
    counted_level (g.T.Tree.lists c.args.tree.now) (g.T.Tree.gives c.args.tree.now) left_out s j o opened found counted

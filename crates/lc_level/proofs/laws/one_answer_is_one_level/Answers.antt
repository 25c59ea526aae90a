use Rattle.lc_level.proofs.OneLevel.{one_level}
use Rattle.lc_level.proofs.laws.one_answer_is_one_level.Goals as goal

pub returns : goal.returns
returns g c = λ one s j a b may also. one_level (g.T.Tree.lists c.args.tree.now) (g.T.Tree.gives c.args.tree.now) one s j a b may also

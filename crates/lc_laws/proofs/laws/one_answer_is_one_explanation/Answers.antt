use Rattle.lc_laws.proofs.SaidOnce.{answers_one_explanation, one_explanation}
use Rattle.lc_laws.proofs.laws.one_answer_is_one_explanation.Goals as goal

pub returns-clause-answers : goal.returns-clause-answers
returns-clause-answers g c = answers_one_explanation

pub returns-clause-tree : goal.returns-clause-tree
returns-clause-tree g c = one_explanation (g.T.Tree.lists c.args.tree.now) (g.T.Tree.gives c.args.tree.now)

use Rattle.lc_laws.proofs.SaidByAnswers.{said_by_answers}
use Rattle.lc_laws.proofs.laws.explanations_are_by_given_answers.Goals as goal

pub returns : goal.returns
returns g c = said_by_answers (g.T.Tree.lists c.args.tree.now) (g.T.Tree.gives c.args.tree.now)

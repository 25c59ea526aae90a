use Rattle.lc_laws.proofs.{SlashByAnswers.answers_slash_law, SlashesSaidAlike.slash_law}
use Rattle.lc_laws.proofs.laws.slashes_of_directories_say_nothing.Goals as goal

pub returns-clause-answers : goal.returns-clause-answers
returns-clause-answers g c = answers_slash_law

pub returns-clause-tree : goal.returns-clause-tree
returns-clause-tree g c = slash_law (g.T.Tree.lists c.args.tree.now) (g.T.Tree.gives c.args.tree.now)

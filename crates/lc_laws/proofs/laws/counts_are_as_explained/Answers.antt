use Rattle.lc_laws.proofs.Agreement.{answers_explained_law, explained_law}
use Rattle.lc_laws.proofs.laws.counts_are_as_explained.Goals as goal

pub returns-clause-answers : goal.returns-clause-answers
returns-clause-answers g c = answers_explained_law c.entries_are_explained_as_decided.ensures.entry

pub returns-clause-tree : goal.returns-clause-tree
returns-clause-tree g c =
    explained_law c.entries_are_explained_as_decided.ensures.entry (g.T.Tree.lists c.args.tree.now) (g.T.Tree.gives c.args.tree.now)

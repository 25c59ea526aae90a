use Rattle.lc_laws.proofs.CheckedOut.{answers_checked_law, checked_law}
use Rattle.lc_laws.proofs.laws.counts_are_as_checked.Goals as goal

pub returns-clause-answers : goal.returns-clause-answers
returns-clause-answers g c = answers_checked_law c.the_rule_of_a_line_ignores_it.ensures c.the_last_match_decides.ensures

pub returns-clause-tree : goal.returns-clause-tree
returns-clause-tree g c =
    checked_law c.the_rule_of_a_line_ignores_it.ensures c.the_last_match_decides.ensures (g.T.Tree.lists c.args.tree.now)
    (g.T.Tree.gives c.args.tree.now)

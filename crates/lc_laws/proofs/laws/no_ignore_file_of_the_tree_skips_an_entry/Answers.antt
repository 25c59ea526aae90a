use Rattle.lc_laws.proofs.GivenRules.{answers_no_ignore, no_ignore}
use Rattle.lc_laws.proofs.laws.no_ignore_file_of_the_tree_skips_an_entry.Goals as goal

pub returns-clause-answers : goal.returns-clause-answers
returns-clause-answers g c = answers_no_ignore c.the_rule_of_a_line_ignores_it.ensures

pub returns-clause-tree : goal.returns-clause-tree
returns-clause-tree g c =
    no_ignore c.the_rule_of_a_line_ignores_it.ensures (g.T.Tree.lists c.args.tree.now) (g.T.Tree.gives c.args.tree.now)

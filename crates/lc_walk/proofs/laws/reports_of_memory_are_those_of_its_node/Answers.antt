use Rattle.lc_level.specs.NodeTrees.{tree_of_node}
use Rattle.lc_walk.proofs.laws.reports_of_memory_are_those_of_its_node.Goals as goal

pub returns-clause-one_answer : goal.returns-clause-one_answer
returns-clause-one_answer c =
    λ top modest filters job place j leads a may. c.a_node_is_one_tree.ensures.levels top modest filters j a may

pub returns-clause-report : goal.returns-clause-report
returns-clause-report c =
    λ top modest ask capacity workers job promises r answers keeps.
    (answers keeps).one_answer (tree_of_node top)
    (λ place j leads a may. c.a_node_is_one_tree.ensures.levels top modest ask.filters j a may)

use Rattle.lc_tree.specs.{MemTrees.{mem_lists, mem_gives}, Paths.names_of_path}
use Rattle.lc_level.specs.NodeTrees.{tree_of_node}
use Rattle.lc_level.proofs.{NodeTrees.{node_answers, well_formed_at}, OneLevel.one_level}
use Rattle.lc_level.proofs.laws.a_node_is_one_tree.Goals as goal

pub returns-clause-answers : goal.returns-clause-answers
returns-clause-answers c = λ top path. node_answers top path

pub returns-clause-levels : goal.returns-clause-levels
returns-clause-levels c =
    λ top modest s j a may.
    one_level (mem_lists top) (mem_gives top) (c.trees_of_memory_give_one.ensures top modest) s j a
    (tree_of_node top (names_of_path j.path)) may (node_answers top j.path)

pub returns-clause-well_formed : goal.returns-clause-well_formed
returns-clause-well_formed c = λ top place. well_formed_at top place

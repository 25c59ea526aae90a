use Rattle.lc_tree.specs.Nodes.{node_at}
use Rattle.lc_tree.proofs.OneAnswer.{lists_once}
use Rattle.lc_tree.proofs.laws.trees_of_memory_list_once.Goals as goal

pub returns : goal.returns
returns c = λ top path. lists_once (node_at top path)

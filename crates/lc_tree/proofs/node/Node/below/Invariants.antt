-- The names that are left lead on from the node that was reached.
use Rattle.std.proofs.Common.{◌≡◌, length}
use Rattle.lc_glob.specs.Path.{segments_of}
use Rattle.lc_tree.specs.Nodes.{node_below}
use Rattle.lc_tree.proofs.node.Node.below.Given as goal

abbrev pub invariant-names : goal.invariant-names
invariant-names l = node_below (segments_of l.left) l.node ≡ node_below (segments_of l.initial.left) l.initial.node

abbrev pub decreases-names : goal.decreases-names
decreases-names l = length l.left

-- The entries of the children so far.
use Rattle.std.proofs.Common.{◌≡◌, map, take}
use Rattle.lc_tree.specs.Nodes.{entry_of_child}
use Rattle.lc_tree.proofs.mem_tree.entries_of.Given as goal

abbrev pub invariant-loop-child : goal.invariant-loop-child
invariant-loop-child l = l.entries.items ≡ map entry_of_child (take l.child-index l.children)

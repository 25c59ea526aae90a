-- The entries of the parts so far, and the parts that are left.
use Rattle.std.proofs.Common.{◌≡◌, ◌++◌}
use Rattle.lc_tree.specs.Parts.{AreJoined}
use Rattle.lc_tree.proofs.list_parts.join.Given as goal

abbrev pub invariant-loop-part : goal.invariant-loop-part
invariant-loop-part l =
    goal.iterator-loop-part.can_next l.part-iterator
    × goal.iterator-loop-part.is_finite l.part-iterator
    × (l.fn.parts.items ≡ l.yielded ++ l.part-iterator.rest.items)
    × AreJoined l.yielded l.entries.items

-- The entries of the names so far, and the names that are left.
use Rattle.std.proofs.Common.{◌≡◌, ◌++◌, string_bytes}
use Rattle.lc_tree.specs.{Named.{AreEntriesOf, bytes_of}, SysLooks.ShowsIn}
use Rattle.lc_tree.proofs.sys_entries.look_at_each.Given as goal

abbrev pub invariant-loop-name : goal.invariant-loop-name
invariant-loop-name g l =
    (goal.iterator-loop-name g).can_next l.name-iterator
    × (goal.iterator-loop-name g).is_finite l.name-iterator
    × (l.fn.names.items ≡ l.yielded ++ l.name-iterator.rest.items)
    × (string_bytes l.path ≡ string_bytes l.initial.path)
    × AreEntriesOf (ShowsIn (g.L.Look.may_answer l.looks) l.directory (string_bytes l.initial.path)) (bytes_of l.yielded) l.entries.items

use Rattle.std.proofs.Common.{◌≡◌}
use Rattle.std.specs.List.{filter, list_any}
use Rattle.lc_level.specs.Narrowing.{leads_to}
use Rattle.lc_level.proofs.narrowing.Selection.part_of.Given as goal

abbrev pub invariant-loop-entry : goal.invariant-loop-entry
invariant-loop-entry l =
    goal.iterator-loop-entry.can_next l.entry-iterator
    × goal.iterator-loop-entry.is_finite l.entry-iterator
    × (l.part.items ≡ filter (λ e. list_any (leads_to e) l.self.rests) l.yielded)

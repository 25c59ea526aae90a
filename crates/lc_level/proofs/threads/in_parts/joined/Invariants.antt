use Rattle.std.proofs.Common.{◌≡◌, ◌++◌}
use Rattle.lc_level.specs.CountedParts.{Joins}
use Rattle.lc_level.proofs.threads.in_parts.joined.Given as goal

abbrev pub invariant-loop-part : goal.invariant-loop-part
invariant-loop-part l =
    (l.yielded ++ l.part-iterator.rest.items ≡ l.fn.parts.items)
    × Joins l.yielded l.fn.absent.items l.found

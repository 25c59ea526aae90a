use Rattle.std.proofs.Common.{length}
use Rattle.lc_program.proofs.NestedPlaces.{AreLeft}
use Rattle.lc_program.proofs.nested.refuse_nested.Given as goal

abbrev pub invariant-places : goal.invariant-places
invariant-places l = AreLeft l.fn.places l.rest

abbrev pub decreases-places : goal.decreases-places
decreases-places l = length l.rest

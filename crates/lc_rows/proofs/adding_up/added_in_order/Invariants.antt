use Rattle.std.proofs.Common.{length}
use Rattle.lc_rows.proofs.Folding.{IsFolded}
use Rattle.lc_rows.proofs.adding_up.added_in_order.Given as goal

abbrev pub invariant-parts : goal.invariant-parts
invariant-parts l = IsFolded l.parts l.rows.items l.last l.rest

abbrev pub decreases-parts : goal.decreases-parts
decreases-parts l = length l.rest

use Rattle.std.proofs.Common.{inl, inr, refl}
use Rattle.lc_program.proofs.summing.sum_parts.Goals as goal

pub returns-in-Ok : goal.returns-in-Ok
returns-in-Ok g c = inl (c.in-Ok.sum, rw c.needed_by.ensures at c.in-Ok.ensures, c.print_sum.ensures)

pub returns-in-Err : goal.returns-in-Err
returns-in-Err g c =
    inr (c.in-Err.fault, c.cause_of_sum.result, rw c.needed_by.ensures at c.in-Err.ensures, c.cause_of_sum.ensures, refl, refl)

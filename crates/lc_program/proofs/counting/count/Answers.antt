use Rattle.std.proofs.Common.{inr, refl}
use Rattle.lc_program.proofs.Loading.{given_up}
use Rattle.lc_program.proofs.counting.count.Goals as goal

pub returns-in_err-refuse_unless_apart : goal.returns-in_err-refuse_unless_apart
returns-in_err-refuse_unless_apart g c =
    let cause = c.in_err-refuse_unless_apart.field-0.0 in
    inr (
      cause,
      rw (c.deref.ensures.value) at c.in_err-refuse_unless_apart.ensures.nested,
      given_up c.from_residual.result cause c.from_residual.ensures.1,
      refl,
      refl,
    )

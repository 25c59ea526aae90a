use Rattle.std.proofs.Common.{inl, refl}
use Rattle.lc_program.proofs.report_lines.cause_with.Goals as goal

pub returns-in-Ok : goal.returns-in-Ok
returns-in-Ok c = λ text is. inl (c.in-Ok.line, rw c.in-Ok.is at is, refl)

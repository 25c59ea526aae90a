use Rattle.std.proofs.Common.{inl, refl, sym}
use Rattle.lc_program.proofs.explaining.directory_reason.Goals as goal

pub returns-in_ok-line-in-Some : goal.returns-in_ok-line-in-Some
returns-in_ok-line-in-Some g c =
    inl (
      c.in-Some.reason,
      rw c.in-Some.is at c.in_ok-why.ensures,
      sym c.if-is_no_directory.ensures,
      (c.in_ok-line-in-Some.line, c.in_ok-line-in-Some.ensures, refl),
    )

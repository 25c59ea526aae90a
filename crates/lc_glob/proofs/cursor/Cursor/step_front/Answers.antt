use Rattle.std.proofs.Common.{sym, ◌∙◌}
use Rattle.lc_glob.proofs.{Fitting.front_stuck, Stepping.first_alone}
use Rattle.lc_glob.proofs.cursor.Cursor.step_front.Goals as goal

pub returns-in-None-clause-is : goal.returns-in-None-clause-is
returns-in-None-clause-is g c =
    front_stuck _ _ _ _ c.in-Some.ensures (sym c.is_star.ensures ∙ c.if-is_star.false) c.in-None.ensures.strips

pub returns-then-has_no_token-clause-is : goal.returns-then-has_no_token-clause-is
returns-then-has_no_token-clause-is g c =
    first_alone _ _ _ _ c.in-Some.ensures (sym c.is_star.ensures ∙ c.if-is_star.true) (sym c.has_no_token.ensures ∙ c.if-has_no_token.true)

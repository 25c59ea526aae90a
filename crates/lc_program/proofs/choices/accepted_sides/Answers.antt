use Rattle.std.proofs.Common.{refl}
use Rattle.lc_program.proofs.SidesGiven.{sides_accepted, sides_refused}
use Rattle.lc_program.proofs.choices.accepted_sides.Goals as goal

pub returns-in_err-refuse_sides : goal.returns-in_err-refuse_sides
returns-in_err-refuse_sides g c =
    sides_refused (g.Y.System.unlists c.args.system.now) c.args.asked.now (c.in_ok-old.old, c.in_ok-new.new)
    (c.in_ok-old.ensures, c.in_ok-new.ensures) c.from_residual-in_err-refuse_sides.result c.in_err-refuse_sides.field-0.0 _ refl
    c.from_residual-in_err-refuse_sides.ensures.1 c.in_err-refuse_sides.ensures

pub returns : goal.returns
returns g c =
    sides_accepted (g.Y.System.unlists c.args.system.now) c.args.asked.now (c.in_ok-old.old, c.in_ok-new.new)
    (c.in_ok-old.ensures, c.in_ok-new.ensures) _ refl c.in_ok-refuse_sides.ensures

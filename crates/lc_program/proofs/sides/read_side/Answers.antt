use Rattle.std.proofs.Common.{inr}
use Rattle.lc_program.proofs.SidesGiven.{side_unread}
use Rattle.lc_program.specs.Systems.{SystemMay, may_of}
use Rattle.lc_program.proofs.sides.read_side.Goals as goal

pub returns-in_err-parts-clause-reads : goal.returns-in_err-parts-clause-reads
returns-in_err-parts-clause-reads g c =
    let system = c.args.system.now in
    let may : SystemMay = may_of g.Y.Tree.Tree g.Y.System system in
    side_unread may g.S.Source.may_give c.args.how.attributes.now c.args.how.needs c.args.name.now c.args.input.now c.read_one.new.input
    c.from_residual.result
    c.in_err-parts.field-0.0 c.from_residual.ensures.1 c.in_err-parts.ensures.refused

pub returns-in-Ok-clause-reads : goal.returns-in-Ok-clause-reads
returns-in-Ok-clause-reads g c = (c.in_ok-parts.parts, c.in_ok-parts.ensures.parts, c.in-Ok.ensures)

pub returns-in-Err-clause-reads : goal.returns-in-Err-clause-reads
returns-in-Err-clause-reads g c =
    inr (c.in_ok-parts.parts, c.in_ok-parts.ensures.parts, (c.in-Err.fault, c.in-Err.ensures, c.cause_of_sum.ensures))

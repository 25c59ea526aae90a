use Rattle.lc_program.proofs.SidesGiven.{new_missing, old_missing}
use Rattle.lc_program.specs.Systems.{SystemMay, may_of}
use Rattle.lc_program.proofs.sides.both_sides.Goals as goal

pub returns-in_err-old-clause-gives : goal.returns-in_err-old-clause-gives
returns-in_err-old-clause-gives g c =
    let system = c.args.system.now in
    let may : SystemMay = may_of g.Y.Tree.Tree g.Y.System system in
    old_missing may g.S.Source.may_give c.args.how.walk.now c.args.how.options.now c.args.how.attributes.now
    c.args.how.needs c.args.sides c.args.names.0.now c.args.names.1.now c.args.input.now c.report_of.new.input c.from_residual.result
    c.in_err-old.field-0.0
    c.from_residual.ensures.1 c.in_err-old.ensures.gives

pub returns-in_err-new-clause-gives : goal.returns-in_err-new-clause-gives
returns-in_err-new-clause-gives g c =
    let system = c.args.system.now in
    let may : SystemMay = may_of g.Y.Tree.Tree g.Y.System system in
    new_missing may g.S.Source.may_give c.args.how.walk.now c.args.how.options.now c.args.how.attributes.now
    c.args.how.needs c.args.sides c.args.names.0.now c.args.names.1.now c.args.input.now c.report_of-2.new.input
    c.from_residual-in_err-new.result c.in_err-new.field-0.0 c.in_ok-old.old c.report_of.new.input
    c.from_residual-in_err-new.ensures.1 c.in_ok-old.ensures.gives c.in_err-new.ensures.gives

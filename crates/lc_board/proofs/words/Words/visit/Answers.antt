use Rattle.std.proofs.Common.{sym, ◌∙◌}
use Rattle.lc_board.proofs.{WordBounds.{visits_once, visits_twice}, WordScans.{found_open, visit_then}}
use Rattle.lc_board.proofs.words.Words.visit.Goals as goal

pub returns-clause-rule : goal.returns-clause-rule
returns-clause-rule g c =
    visit_then c.args.self.now c.args.number c.look-found.result c.args.pass.now c.look-found.new.pass c.try_claim.new.pass
    c.try_claim.result c.look-found.ensures.rule (sym c.is_open.ensures ∙ c.if-not-is_open.false) c.try_claim.ensures.rule

pub returns-then-not-is_open-clause-steps : goal.returns-then-not-is_open-clause-steps
returns-then-not-is_open-clause-steps g c =
    visits_once _ c.args.number c.args.pass.now.seat.me.0 c.look-found.new.pass.seat.me.0 c.look-found.ensures.steps

pub returns-clause-steps : goal.returns-clause-steps
returns-clause-steps g c =
    let v = c.args.pass.now.seat.me.0 in let u = c.look-found.new.pass.seat.me.0 in
    visits_twice _ c.args.number v u c.try_claim.new.pass.seat.me.0 c.look-found.ensures.steps c.try_claim.ensures.steps
    (found_open _ _ _ v u c.look-found.ensures.rule (sym c.is_open.ensures ∙ c.if-not-is_open.false))

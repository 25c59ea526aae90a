use Rattle.std.proofs.Common.{sym, ◌∙◌}
use Rattle.lc_board.proofs.{WordBounds.{claim_steps, newest_steps}, WordScans.sees_answers}
use Rattle.lc_board.proofs.words.Words.claim.Goals as goal

pub returns-in-None-clause-rule : goal.returns-in-None-clause-rule
returns-in-None-clause-rule g c =
    sees_answers c.args.self.now.capacity c.args.pass.now.seat.me.0 c.claim_newest.new.pass.seat.me.0 c.claim_lowest.new.pass.seat.me.0
    c.claim_lowest.new.pass.holding c.claim_lowest.result
    (c.claim_newest.new.pass.ties.numbered ∙ (c.claim_newest.ensures.board.1 ∙ sym c.args.pass.now.ties.numbered))
    c.in-None.ensures.none.1 c.claim_lowest.ensures.rule

pub returns-in-Some-clause-steps : goal.returns-in-Some-clause-steps
returns-in-Some-clause-steps g c = newest_steps c.args.pass.now.seat.me.0 c.claim_newest.new.pass.seat.me.0 c.claim_newest.ensures.steps

pub returns-in-None-clause-steps : goal.returns-in-None-clause-steps
returns-in-None-clause-steps g c =
    claim_steps c.args.self.now.capacity c.args.pass.now.seat.me.0 c.claim_newest.new.pass.seat.me.0 c.claim_lowest.new.pass.seat.me.0
    c.claim_newest.ensures.steps c.claim_lowest.ensures.steps

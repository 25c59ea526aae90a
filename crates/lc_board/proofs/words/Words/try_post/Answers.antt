use Rattle.std.proofs.Common.{◌≡◌, ℕ, subst, ◌∙◌, ◌+◌, ap, refl}
use Rattle.lc_board.specs.WordBounds.{StepsOn}
use Rattle.lc_board.proofs.{WordBounds.{step_more, steps_both, takes_one}, WordScans.{post_through, looks_trans}}
use Rattle.lc_board.proofs.words.Words.try_post.Goals as goal

pub returns-in-Ok-clause-rule : goal.returns-in-Ok-clause-rule
returns-in-Ok-clause-rule g c = let same = c.move_front.ensures.board in let saw = c.move_front.ensures.rule in
    let did = c.in-Ok.ensures.rule in (
      did.0 ∙ ap (λ n. n + 1) same.2,
      post_through _ _ _ _ _ _ _ _ c.args.pass.now.seat.me.0 c.move_front.new.pass.seat.me.0 c.draw_and_open.new.pass.seat.me.0 same.1
          same.0.1 refl (saw.0, saw.1) did.1,
    )

pub returns-in-Err-clause-rule : goal.returns-in-Err-clause-rule
returns-in-Err-clause-rule g c = let same = c.move_front.ensures.board in let did = c.in-Err.ensures.rule in (
  did.0,
  did.1 ∙ same.2,
  looks_trans _ c.args.pass.now.seat.me.0 c.move_front.new.pass.seat.me.0 c.draw_and_open.new.pass.seat.me.0
      c.move_front.ensures.rule did.2,
)

pub returns-then-move_front-clause-steps : goal.returns-then-move_front-clause-steps
returns-then-move_front-clause-steps g c = step_more c.args.pass.now.front c.args.pass.now.seat.me.0 c.move_front.new.pass.seat.me.0
    c.move_front.ensures.steps

pub returns-in-Ok-clause-steps : goal.returns-in-Ok-clause-steps
returns-in-Ok-clause-steps g c = let i : ℕ = c.args.pass.now.front in let did = c.in-Ok.ensures.steps in
    let v = c.args.pass.now.seat.me.0 in let u = c.move_front.new.pass.seat.me.0 in let w = c.draw_and_open.new.pass.seat.me.0 in
    let front : c.move_front.new.pass.front ≡ c.args.pass.now.front = c.if-move_front.ensures.front in (
      did.0 ∙ front,
      steps_both 1 2 i v u w (takes_one i v u c.move_front.ensures.steps) (subst (λ z. StepsOn 2 z u w) front did.1),
    )

pub returns-in-Err-clause-steps : goal.returns-in-Err-clause-steps
returns-in-Err-clause-steps g c = let i : ℕ = c.args.pass.now.front in
    let v = c.args.pass.now.seat.me.0 in let u = c.move_front.new.pass.seat.me.0 in let w = c.draw_and_open.new.pass.seat.me.0 in
    steps_both 1 1 i v u w (takes_one i v u c.move_front.ensures.steps)
    (subst (λ z. StepsOn 1 z u w) c.if-move_front.ensures.front c.in-Err.ensures.steps)

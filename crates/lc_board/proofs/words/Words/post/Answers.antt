use Rattle.std.proofs.Common.{◌≤◌, ap, ◌∙◌, ◌+◌}
use Rattle.lc_board.proofs.{WordBounds.{PostsTo, posts_last, posts_next, takes_less}, WordScans.{same_trans, post_through, sees_trans}}
use Rattle.lc_board.proofs.words.Words.post.Goals as goal

pub returns-in-Ok-clause-rule : goal.returns-in-Ok-clause-rule
returns-in-Ok-clause-rule g c = let inv = c.loop-pass.invariant in let did = c.in-Ok.ensures.rule in (
  did.0 ∙ ap (λ n. n + 1) inv.posted,
  post_through _ _ _ _ _ _ _ _ c.args.pass.now.seat.me.0 c.loop-pass.pass.seat.me.0 c.try_post.new.pass.seat.me.0 inv.holding
      inv.same.1 inv.job inv.sees did.1,
)

pub returns-in-Ok-clause-steps : goal.returns-in-Ok-clause-steps
returns-in-Ok-clause-steps g c = let inv = c.loop-pass.invariant in let did = c.in-Ok.ensures.steps in
    posts_last c.loop-pass.pass.front c.in-Ok.number c.args.pass.now.seat.me.0 c.loop-pass.pass.seat.me.0 c.try_post.new.pass.seat.me.0
    did.0 inv.steps did.1

pub returns-clause-steps : goal.returns-clause-steps
returns-clause-steps g c = takes_less (PostsTo c.loop-pass.pass.front) (λ k n. n ≤ 2) c.args.pass.now.seat.me.0 c.loop-pass.pass.seat.me.0
    c.loop-pass.invariant.steps (λ k n p. p.0)

pub loop-pass-preserved : goal.loop-pass-preserved
loop-pass-preserved g c = let inv = c.loop-pass.invariant in let same = c.in-Err.ensures.board in let told = c.in-Err.ensures.rule in
    record {
      same = same_trans c.args.pass.now c.loop-pass.pass c.try_post.new.pass inv.same same.0;
      holding = same.1 ∙ inv.holding;
      posted = told.1 ∙ inv.posted;
      sees = sees_trans c.args.pass.now.seat.me.0 c.loop-pass.pass.seat.me.0 c.try_post.new.pass.seat.me.0 inv.sees (told.2.0, told.2.1);
      job = told.0 ∙ inv.job;
      steps = posts_next c.loop-pass.pass.front c.try_post.new.pass.front c.args.pass.now.seat.me.0 c.loop-pass.pass.seat.me.0
          c.try_post.new.pass.seat.me.0 same.2 inv.steps c.in-Err.ensures.steps;
    }

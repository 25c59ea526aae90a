use Rattle.std.proofs.{Common.{◌≡◌, ◌∷◌, ap, arith, refl}, lemmas.List.replicate-append-replicate}
use Rattle.lc_board.proofs.words.start.new_words.Goals as goal

pub loop-init : goal.loop-init
loop-init c = rw (c.in_ok-push.ensures.items, c.in_ok-row.ensures.items) refl

pub loop-preserved : goal.loop-preserved
loop-preserved c = rw (c.in_ok-push-2.ensures.items, c.loop.invariant) (ap (λ xs. 1 ∷ xs) (replicate-append-replicate c.loop.counter 1 0))

pub returns : goal.returns
returns c =
    let all : c.loop.counter ≡ c.args.others = omega arith in
    rw (← all) c.loop.invariant

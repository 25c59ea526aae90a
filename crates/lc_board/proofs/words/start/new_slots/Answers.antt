use Rattle.std.proofs.{Common.{◌≡◌, ◌∷◌, ap, arith, refl}, lemmas.List.replicate-append-replicate}
use Rattle.lc_board.specs.declared.words.view.Slot.TheVariants.{Empty, Job}
use Rattle.lc_board.proofs.words.start.new_slots.Goals as goal

pub loop-init : goal.loop-init
loop-init g c = rw (c.in_ok-push.ensures.items, c.in_ok-row.ensures.items) refl

pub loop-preserved : goal.loop-preserved
loop-preserved g c = rw (c.in_ok-push-2.ensures.items, c.loop.invariant)
    (ap (λ xs. Job c.args.root ∷ xs) (replicate-append-replicate c.loop.counter 1 Empty))

pub returns : goal.returns
returns g c =
    let all : c.loop.counter ≡ c.args.others = omega arith in
    rw (← all) c.loop.invariant

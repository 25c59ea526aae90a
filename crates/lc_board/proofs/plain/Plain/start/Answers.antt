use Rattle.std.proofs.Common.{rules, ◌≡◌, ◌∷◌, [], arith, refl}
use Rattle.lc_board.specs.declared.plain.cell.Cell.TheVariants.{Waiting}
use Rattle.lc_board.proofs.{PlainSound.sound_first, PlainSteps.after_first}
use Rattle.lc_board.proofs.plain.Plain.start.Goals as goal

pub invariant_of-result : goal.invariant_of-result
invariant_of-result g c =
    let n : c.loop.counter ≡ c.args.workers = omega arith in
    let items : c.push-2.new.self.items ≡ Waiting c.args.root ∷ [] = search rules in
    rw (c.loop.invariant, n, items) (sound_first _ _ _ c.requires.capacity.0 c.requires.capacity.1)

pub returns : goal.returns
returns g c =
    let n : c.loop.counter ≡ c.args.workers = omega arith in
    let items : c.push-2.new.self.items ≡ Waiting c.args.root ∷ [] = search rules in
    rw (c.loop.invariant, n, items) (refl, after_first _ _ _)

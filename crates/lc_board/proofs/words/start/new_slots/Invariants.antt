use Rattle.std.proofs.Common.{◌≡◌, ◌∷◌, replicate}
use Rattle.lc_board.specs.declared.words.view.Slot.TheVariants.{Empty, Job}
use Rattle.lc_board.proofs.words.start.new_slots.Given as goal

abbrev pub invariant-loop : goal.invariant-loop
invariant-loop g l = l.row.items ≡ Job l.fn.root ∷ replicate l.counter Empty

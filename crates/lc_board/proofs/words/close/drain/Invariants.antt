use Rattle.std.proofs.Common.{◌≡◌, ℕ, ◌-◌, ◌<◌, false, get_or}
use Rattle.std.specs.Mem.Slots.{slots_filled, slots_len, Ownership.Filled}
use Rattle.lc_board.proofs.words.close.drain.Given as goal

abbrev pub invariant-loop-at : goal.invariant-loop-at
invariant-loop-at g l = Filled (slots_filled l.closed.slots) l.at (slots_len l.closed.slots)
    × ((k : ℕ) → k < l.at → get_or (slots_filled l.closed.slots) k false ≡ false)

abbrev pub decreases-loop-at : goal.decreases-loop-at
decreases-loop-at g l = slots_len l.closed.slots - l.at

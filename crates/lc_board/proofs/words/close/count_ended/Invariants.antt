use Rattle.std.specs.Mem.Slots.{slots_items}
use Rattle.lc_board.specs.WordClose.{EndedBelow}
use Rattle.lc_board.proofs.words.close.count_ended.Given as goal

abbrev pub invariant-loop-number : goal.invariant-loop-number
invariant-loop-number g l = EndedBelow l.number (slots_items l.closed.words)

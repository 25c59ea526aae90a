use Rattle.std.proofs.Common.{◌≡◌, ℕ, ◌<◌, ◌≤◌, false, get_or, vec_len, vec_capacity}
use Rattle.std.specs.Mem.Slots.{slots_items, slots_filled, slots_len, Ownership.Filled}
use Rattle.lc_board.specs.WordClose.{TakesRows}
use Rattle.lc_board.proofs.words.close.take_rows.Given as goal

abbrev pub invariant-loop-number : goal.invariant-loop-number
invariant-loop-number g l = record {
  same_words : l.closed.words ≡ l.initial.closed.words;
  same_items : slots_items l.closed.slots ≡ slots_items l.initial.closed.slots;
  same_len : slots_len l.closed.slots ≡ slots_len l.initial.closed.slots;
  filled : Filled (slots_filled l.closed.slots) l.number (slots_len l.closed.slots);
  gone : (k : ℕ) → k < l.number → get_or (slots_filled l.closed.slots) k false ≡ false;
  taken : vec_len l.rows ≡ l.number;
  room : l.count ≤ vec_capacity l.rows;
  rows : TakesRows l.number (slots_items l.initial.closed.words) (slots_items l.initial.closed.slots) l.rows.items;
}

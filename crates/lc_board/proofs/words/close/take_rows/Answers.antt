use Rattle.std.proofs.Common.{◌≢◌, ℕ, ◌<◌, ◌+◌, ◌∙◌, false, get_or, set, sym, ap, arith, get_or-set_same, get_or-set_other}
use mathlib.Core.{Logic.dite, Option.{some, some-injective}}
use native.Mathlib.Decide.{ℕ_discrete}
use lib.ListN.{get_elem?}
use Rattle.std.specs.Mem.Slots.{slots_items, slots_filled, slots_len, slots_counts}
use Rattle.lc_board.specs.{WordCode.has_ended, declared.words.view.Slot.TheVariants.Row}
use Rattle.lc_board.proofs.WordCloses.{word_here, rows_more}
use Rattle.lc_board.proofs.words.close.take_rows.Goals as goal

pub word-requires : goal.word-requires
word-requires g c = rw c.loop-number.invariant.same_words (omega (arith, c.loop-number-test.true, c.requires.sizes), c.requires.full.0)

pub take-requires : goal.take-requires
take-requires g c = let inv = c.loop-number.invariant in
    let near : c.loop-number.number < slots_len c.loop-number.closed.slots = omega
    (arith, c.loop-number-test.true, inv.same_len, c.requires.sizes) in
    (near, inv.filled c.loop-number.number (omega arith) near)

pub push_reserved-requires : goal.push_reserved-requires
push_reserved-requires g c = let inv = c.loop-number.invariant in omega (arith, inv.taken, inv.room, c.loop-number-test.true)

pub unreachable-requires : goal.unreachable-requires
unreachable-requires g c = let inv = c.loop-number.invariant in let x = c.requires.rows c.loop-number.number c.loop-number-test.true in
    c.in_default.not-Row x.0 (some-injective c.take.result (Row x.0)
    (sym c.take.ensures.value ∙ (ap (λ z. get_elem? z c.loop-number.number) inv.same_items ∙ x.1)))

pub ended_row-requires : goal.ended_row-requires
ended_row-requires g c = let inv = c.loop-number.invariant in
    ap has_ended (c.of-word.ensures ∙ sym (word_here (slots_items c.args.closed.words) c.loop-number.number c.word.result
    (ap (λ z. get_elem? (slots_items z) c.loop-number.number) (sym inv.same_words) ∙ c.word.ensures)))
    ∙ c.requires.ended c.loop-number.number c.loop-number-test.true

pub loop-number-preserved : goal.loop-number-preserved
loop-number-preserved g c = let inv = c.loop-number.invariant in let others = c.take.ensures.others in
    let n : ℕ = c.loop-number.number in record {
      same_words = others.3 ∙ inv.same_words;
      same_items = others.0 ∙ inv.same_items;
      same_len = others.2 ∙ inv.same_len;
      filled = λ k a b. let ne : k ≢ c.loop-number.number = (λ e. absurd (omega (arith, a, e))) in ap (λ z. get_or z k false) others.1
          ∙ (get_or-set_other (slots_filled c.loop-number.closed.slots) c.loop-number.number k false false ne
          ∙ inv.filled k (omega (arith, a)) (omega (arith, b, others.2)));
      gone = λ k a. ap (λ z. get_or z k false) others.1 ∙ dite (ℕ_discrete k c.loop-number.number)
          (λ e. ap (λ z. get_or (set (slots_filled c.loop-number.closed.slots) c.loop-number.number false) z false) e
          ∙ get_or-set_same (slots_filled c.loop-number.closed.slots) c.loop-number.number false false
          (omega (arith, (slots_counts c.loop-number.closed.slots).1, inv.same_len, c.requires.sizes.1, c.loop-number-test.true)))
          (λ ne. get_or-set_other (slots_filled c.loop-number.closed.slots) c.loop-number.number k false false ne
          ∙ inv.gone k (let y : k ≢ c.loop-number.number = ne in omega (arith, a, y)));
      taken = c.push_reserved.ensures.len ∙ ap (λ m. m + 1) inv.taken;
      room = omega (arith, inv.room, c.push_reserved.ensures.capacity);
      rows = λ k r low at. rw c.push_reserved.ensures.items
          (rows_more (slots_items c.args.closed.words)
          (slots_items c.args.closed.slots) c.loop-number.rows.items c.loop-number.number c.of-word.result c.in-Row.row
          c.ended_row.result (sym c.loop-number.rows.ok.0 ∙ inv.taken)
          (word_here (slots_items c.args.closed.words) c.loop-number.number c.word.result
          (ap (λ z. get_elem? (slots_items z) c.loop-number.number) (sym inv.same_words) ∙ c.word.ensures) ∙ sym c.of-word.ensures)
          (ap (λ z. get_elem? z c.loop-number.number) (sym inv.same_items)
          ∙ (c.take.ensures.value ∙ ap (λ z. some z) c.in-Row.is)) c.ended_row.ensures inv.rows k r low at);
    }

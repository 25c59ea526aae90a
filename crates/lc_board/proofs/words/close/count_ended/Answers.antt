use Rattle.std.proofs.Common.{◌≡◌, ◌∙◌, true, sym, ap, inr, arith, below_more}
use Rattle.std.specs.Mem.Slots.{slots_items}
use Rattle.lc_board.specs.{WordCode.{is_absent, has_ended}, WordClose.word_at}
use Rattle.lc_board.proofs.WordCloses.{word_here}
use Rattle.lc_board.proofs.words.close.count_ended.Goals as goal

pub returns-then-is_absent : goal.returns-then-is_absent
returns-then-is_absent g c = let here = word_here
    (slots_items c.args.closed.now.words) c.loop-number.number c.word.result c.word.ensures ∙ sym c.of-word.ensures in
    (c.loop-number.invariant, omega arith, inr (ap is_absent here ∙ sym c.if-is_absent.ensures))

pub returns-then-not-has_ended : goal.returns-then-not-has_ended
returns-then-not-has_ended g c = let here = word_here
    (slots_items c.args.closed.now.words) c.loop-number.number c.word.result c.word.ensures ∙ sym c.of-word.ensures in (
      c.loop-number.invariant,
      omega arith,
      ap is_absent here ∙ sym c.if-is_absent.ensures,
      ap has_ended here
          ∙ (sym c.has_ended.ensures ∙ c.if-not-has_ended.true),
    )

pub loop-number-preserved : goal.loop-number-preserved
loop-number-preserved g c = let here = word_here
    (slots_items c.args.closed.now.words) c.loop-number.number c.word.result c.word.ensures ∙ sym c.of-word.ensures in
    below_more (λ k. has_ended (word_at (slots_items c.args.closed.now.words) k) ≡ true) c.loop-number.number
    (λ k low. c.loop-number.invariant k low) (ap has_ended here ∙ (sym c.has_ended.ensures ∙ c.if-not-has_ended.false))

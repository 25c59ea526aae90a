use Rattle.std.proofs.{Common.{◌∙◌, sym, arith, length}, lemmas.List.Sums.position_or_len_is}
use Rattle.lc_rules.specs.AttrWords.{is_white}
use Rattle.lc_rules.proofs.attr_words.word_end.Goals as goal

pub returns-then-is_white-clause-is : goal.returns-then-is_white-clause-is
returns-then-is_white-clause-is c = sym (position_or_len_is is_white c.args.bytes.now _ 0 (omega arith) c.loop-i.invariant
    (λ _. sym c.is_white.ensures ∙ c.if-is_white.true))

pub returns-clause-is : goal.returns-clause-is
returns-clause-is c = sym (position_or_len_is is_white c.args.bytes.now (length c.args.bytes.now) 0 (omega arith)
    (λ k l. c.loop-i.invariant k (omega arith)) (λ l. absurd (omega arith)))

use Rattle.std.proofs.{Common.{◌<◌, ◌∙◌, sym, arith, length, length-drop}, lemmas.{Bool.{Decides.Decides-eqb, false≢true}, List.take_rest}}
use Rattle.lc_rules.proofs.WordCuts.{first_word_of, none_trimmed, rest_less}
use Rattle.lc_rules.proofs.attr_words.split_word.Goals as goal

pub returns-then-is_empty-clause-cases : goal.returns-then-is_empty-clause-cases
returns-then-is_empty-clause-cases c = none_trimmed c.args.bytes.now c.trimmed-rest.result.now c.trimmed-rest.ensures.is
    ((Decides-eqb (length c.trimmed-rest.result.now) 0).0 (sym c.is_empty.ensures ∙ c.if-is_empty.true))

pub returns-clause-cases : goal.returns-clause-cases
returns-clause-cases c =
    first_word_of c.args.bytes.now c.trimmed-rest.result.now _ c.trimmed-rest.ensures.is
    (λ h. false≢true (sym c.if-is_empty.false ∙ c.is_empty.ensures
    ∙ (Decides-eqb (length c.trimmed-rest.result.now) 0).1 h)) c.word_end-end.ensures.is

pub returns-clause-smaller : goal.returns-clause-smaller
returns-clause-smaller c =
    let above : 0 < c.word_end-end.result = rest_less c.args.bytes.now c.trimmed-rest.result.now _ c.trimmed-rest.ensures.is
    (λ h. false≢true (sym c.if-is_empty.false ∙ c.is_empty.ensures
    ∙ (Decides-eqb (length c.trimmed-rest.result.now) 0).1 h)) c.word_end-end.ensures.is in
    rw take_rest (omega (arith, length-drop c.word_end-end.result c.trimmed-rest.result.now))

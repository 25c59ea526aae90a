use Rattle.std.proofs.Common.{◌<◌, ◌≤◌, ◌∙◌, ◌∷◌, [], ◌++◌, sym, ap, arith, length, take, drop}
use Rattle.std.proofs.lemmas.{Bool.{Decides.Decides-eqb, false≢true}, List.{take-append-drop, take_rest}}
use Rattle.lc_rules.specs.AttrWords.{words}
use Rattle.lc_rules.proofs.LastWords.{words_last, last_word_some, front_less}
use Rattle.lc_rules.proofs.last_word.split_last_word.Goals as goal

pub returns-clause-cases : goal.returns-clause-cases
returns-clause-cases c =
    let rest = c.trimmed_end-rest.result.now in
    let start = c.last_word_start-start.result in
    let is = c.last_word_start-start.ensures.is in
    let parts = sym (take-append-drop start rest) in
    sym c.trimmed_end-rest.ensures.same
    ∙ words_last rest (take start rest) (drop start rest) parts is.white is.black
    (last_word_some rest (take start rest) (drop start rest) parts
    (λ h. false≢true (sym c.if-is_empty.false ∙ c.is_empty.ensures ∙ (Decides-eqb (length rest) 0).1 h))
    c.trimmed_end-rest.ensures.black is.white)
    ∙ ap (λ l. words (take start rest) ++ (l ∷ [])) (sym (take_rest rest start))

pub returns-clause-smaller : goal.returns-clause-smaller
returns-clause-smaller c =
    let rest = c.trimmed_end-rest.result.now in
    let start = c.last_word_start-start.result in
    let is = c.last_word_start-start.ensures.is in
    let less : length (take start rest) < length rest = front_less start rest
    (last_word_some rest (take start rest) (drop start rest) (sym (take-append-drop start rest))
    (λ h. false≢true (sym c.if-is_empty.false ∙ c.is_empty.ensures ∙ (Decides-eqb (length rest) 0).1 h))
    c.trimmed_end-rest.ensures.black is.white) in
    let most : length rest ≤ length c.args.bytes.now = c.trimmed_end-rest.ensures.shorter in
    omega (arith, less, most)

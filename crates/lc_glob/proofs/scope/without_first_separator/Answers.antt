use Rattle.std.proofs.Common.{sym, ap, ◌∙◌, ◌∷◌, Bool, cond}
use Rattle.lc_glob.specs.{Elements.parts_in, Pieces.cuts_left, Reading.without_first}
use Rattle.lc_glob.proofs.Fronts.{begins_before, rest_parts}
use Rattle.lc_glob.proofs.scope.without_first_separator.Goals as goal

pub returns-then-has_no_token-clause-begins : goal.returns-then-has_no_token-clause-begins
returns-then-has_no_token-clause-begins g c =
    let e = g.E.Element in
    let cut = c.cut_at_first_separator.ensures ∙ ap (λ r. c.cut_at_first_separator.result.0.now ∷ cuts_left e.separates r) c.in-Some.is in
    sym (begins_before e.tokens_in e.separates _ _ _ cut ∙ sym c.has_no_token.ensures ∙ c.if-has_no_token.true)

pub returns-then-has_no_token-clause-parts : goal.returns-then-has_no_token-clause-parts
returns-then-has_no_token-clause-parts g c =
    let e = g.E.Element in
    let cut = c.cut_at_first_separator.ensures ∙ ap (λ r. c.cut_at_first_separator.result.0.now ∷ cuts_left e.separates r) c.in-Some.is in
    let all = parts_in e.tokens_in e.separates c.args.elements.now in
    rest_parts e.tokens_in e.separates _ _ _ cut
    ∙ sym (ap (λ (t : Bool). cond t (without_first all) all)
    (begins_before e.tokens_in e.separates _ _ _ cut ∙ sym c.has_no_token.ensures ∙ c.if-has_no_token.true))

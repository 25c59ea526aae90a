use Rattle.std.proofs.Common.{sym, ap, ◌∙◌, ◌++◌, ◌∷◌, [], Bool, cond}
use Rattle.lc_glob.specs.{Elements.parts_in, Pieces.cuts_left, Reading.without_last}
use Rattle.lc_glob.proofs.Fronts.{ends_after, front_parts}
use Rattle.lc_glob.proofs.scope.without_last_separator.Goals as goal

pub returns-then-has_no_token-clause-ends : goal.returns-then-has_no_token-clause-ends
returns-then-has_no_token-clause-ends g c =
    let e = g.E.Element in
    let cut = c.cut_at_last_separator.ensures
    ∙ ap (λ r. cuts_left e.separates r ++ c.cut_at_last_separator.result.1.now ∷ []) c.in-Some.is in
    sym (ends_after e.tokens_in e.separates _ _ _ cut ∙ sym c.has_no_token.ensures ∙ c.if-has_no_token.true)

pub returns-then-has_no_token-clause-parts : goal.returns-then-has_no_token-clause-parts
returns-then-has_no_token-clause-parts g c =
    let e = g.E.Element in
    let cut = c.cut_at_last_separator.ensures
    ∙ ap (λ r. cuts_left e.separates r ++ c.cut_at_last_separator.result.1.now ∷ []) c.in-Some.is in
    let all = parts_in e.tokens_in e.separates c.args.elements.now in
    front_parts e.tokens_in e.separates _ _ _ cut
    ∙ sym (ap (λ (t : Bool). cond t (without_last all) all)
    (ends_after e.tokens_in e.separates _ _ _ cut ∙ sym c.has_no_token.ensures ∙ c.if-has_no_token.true))

pub returns-else-has_no_token-clause-ends : goal.returns-else-has_no_token-clause-ends
returns-else-has_no_token-clause-ends g c =
    let e = g.E.Element in
    let cut = c.cut_at_last_separator.ensures
    ∙ ap (λ r. cuts_left e.separates r ++ c.cut_at_last_separator.result.1.now ∷ []) c.in-Some.is in
    sym (ends_after e.tokens_in e.separates _ _ _ cut ∙ sym c.has_no_token.ensures ∙ c.if-has_no_token.false)

pub returns-else-has_no_token-clause-parts : goal.returns-else-has_no_token-clause-parts
returns-else-has_no_token-clause-parts g c =
    let e = g.E.Element in
    let cut = c.cut_at_last_separator.ensures
    ∙ ap (λ r. cuts_left e.separates r ++ c.cut_at_last_separator.result.1.now ∷ []) c.in-Some.is in
    let all = parts_in e.tokens_in e.separates c.args.elements.now in
    sym (ap (λ (t : Bool). cond t (without_last all) all)
    (ends_after e.tokens_in e.separates _ _ _ cut ∙ sym c.has_no_token.ensures ∙ c.if-has_no_token.false))

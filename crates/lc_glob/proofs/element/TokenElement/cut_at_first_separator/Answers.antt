use Rattle.std.proofs.Common.{◌≡◌, sym, ap, ◌∙◌, ◌++◌, ◌∷◌, [], List, false, append_assoc}
use Rattle.std.proofs.lemmas.List.Elements.{All-append, All-cons, All-nil}
use Rattle.lc_glob.specs.{TokenLists.is_separator, declared.token.Token.Token}
use Rattle.lc_glob.proofs.Naming.{cut_first, none_first}
use Rattle.lc_glob.proofs.element.TokenElement.cut_at_first_separator.Goals as goal

pub returns-then-is_separator : goal.returns-then-is_separator
returns-then-is_separator c =
    let inv = c.tokens.invariant in
    cut_first is_separator _ inv.0 _ _ _ inv.1 c.in-Some.ensures.cases.0 (sym c.is_separator.ensures ∙ c.if-is_separator.true) inv.2

pub tokens-preserved : goal.tokens-preserved
tokens-preserved c =
    let inv = c.tokens.invariant in
    let t = c.in-Some.token.now in
    let inside = sym c.is_separator.ensures ∙ c.if-is_separator.false in (
      inv.0 ++ t ∷ [],
      inv.1 ∙ ap (λ (l : List Token). inv.0 ++ l) c.in-Some.ensures.cases.0 ∙ sym (append_assoc inv.0 (t ∷ []) c.in-Some.others.now),
      All-append (λ t. is_separator t ≡ false) inv.0 (t ∷ []) inv.2
          (All-cons (λ t. is_separator t ≡ false) t [] inside (All-nil (λ t. is_separator t ≡ false))),
    )

pub returns : goal.returns
returns c =
    let inv = c.tokens.invariant in
    none_first is_separator _ inv.0 _ inv.1 c.in_default.ensures.cases inv.2

use Rattle.std.proofs.{Common.{rules, ap, sym, ◌∙◌, arith}, lemmas.Bool.false≢true}
use Rattle.lc_glob.specs.{TokenLists.{tokens_model, is_separator}, Path.segments_of}
use Rattle.lc_glob.proofs.{EndLooks.{look_at_path, tokens_keep}, Ends.last_cost}
use Rattle.lc_glob.proofs.token_pattern.TokenPattern.matched.Goals as goal

pub returns-then-agrees_at_end-clause-meaning : goal.returns-then-agrees_at_end-clause-meaning
returns-then-agrees_at_end-clause-meaning c =
    let is = rw c.of.ensures at c.matches_path.ensures.matches_path in
    let anchored = c.if-self-2.true in
    search rules

pub returns-then-agrees_at_end-clause-cost : goal.returns-then-agrees_at_end-clause-cost
returns-then-agrees_at_end-clause-cost c =
    let look = look_at_path tokens_model is_separator _ (tokens_keep tokens_model is_separator)
    c.args.self.tokens.now c.args.path.now _ _ _ _ _
    (ap segments_of (sym c.path.view_is) ∙ c.path.invariant.0) (rw c.whole.ensures at c.agrees_at_end.ensures.told)
    c.agrees_at_end.ensures.cost in
    let most = rw c.of.ensures at c.matches_path.ensures.cost in
    rw c.if-self-2.true (omega (arith, look.1, most))

pub returns-else-agrees_at_end-clause-meaning : goal.returns-else-agrees_at_end-clause-meaning
returns-else-agrees_at_end-clause-meaning c =
    let look = look_at_path tokens_model is_separator _ (tokens_keep tokens_model is_separator)
    c.args.self.tokens.now c.args.path.now _ _ _ _ _
    (ap segments_of (sym c.path.view_is) ∙ c.path.invariant.0) (rw c.whole.ensures at c.agrees_at_end.ensures.told)
    c.agrees_at_end.ensures.cost in (
      λ t. absurd (false≢true (sym c.if-agrees_at_end.false ∙ t)),
      λ m. absurd (false≢true (sym c.if-agrees_at_end.false ∙ look.0 (rw c.if-self-2.true at m.2))),
    )

pub returns-else-agrees_at_end-clause-cost : goal.returns-else-agrees_at_end-clause-cost
returns-else-agrees_at_end-clause-cost c =
    let look = look_at_path tokens_model is_separator _ (tokens_keep tokens_model is_separator)
    c.args.self.tokens.now c.args.path.now _ _ _ _ _
    (ap segments_of (sym c.path.view_is) ∙ c.path.invariant.0) (rw c.whole.ensures at c.agrees_at_end.ensures.told)
    c.agrees_at_end.ensures.cost in
    rw c.if-self-2.true (omega (arith, look.1))

pub returns-else-self-2-clause-cost : goal.returns-else-self-2-clause-cost
returns-else-self-2-clause-cost c =
    let most = last_cost _ _ (tokens_model c.args.self.tokens.now) _ _ _ (ap segments_of (sym c.path.view_is) ∙ c.path.invariant.0)
    c.fits_elements.ensures.cost in
    rw c.if-self-2.false (omega (arith, most))

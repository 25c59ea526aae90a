use Rattle.std.proofs.Common.{◌∙◌, ap, sym, ◌∷◌, [], cond, ◌++◌}
use Rattle.lc_rules.specs.IgnoreRules.{without_return}
use Rattle.lc_rules.proofs.LineEnds.{return_last, eq_true, ne_false}
use Rattle.lc_rules.proofs.ignore_line.without_return.Goals as goal

pub returns-then-last-eq13 : goal.returns-then-last-eq13
returns-then-last-eq13 c =
    sym (ap without_return c.in-Some.ensures.cases.0 ∙ return_last c.in-Some.rest.now c.in-Some.last.now
    ∙ ap (λ t. cond t c.in-Some.rest.now (c.in-Some.rest.now ++ (c.in-Some.last.now ∷ []))) (eq_true _ _ c.if-last-eq13.true))

pub returns-else-last-eq13 : goal.returns-else-last-eq13
returns-else-last-eq13 c =
    c.in-Some.ensures.cases.0 ∙
    sym (ap without_return c.in-Some.ensures.cases.0 ∙ return_last c.in-Some.rest.now c.in-Some.last.now
    ∙ ap (λ t. cond t c.in-Some.rest.now (c.in-Some.rest.now ++ (c.in-Some.last.now ∷ []))) (ne_false _ _ c.if-last-eq13.false))

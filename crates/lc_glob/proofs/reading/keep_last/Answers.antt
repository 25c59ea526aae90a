use Rattle.std.proofs.Common.{◌∙◌, ◌∷◌, [], sym, ap, List, false}
use Rattle.lc_glob.specs.{TokenLists.tokens_model, Patterns.plain, Tokens.{TokenModel, star}, Views.live_model, declared.token.Token.Token}
use Rattle.lc_glob.specs.declared.token.Token.TheVariants.{Star}
use Rattle.lc_glob.proofs.TokenLists.{model_of_literals}
use Rattle.lc_glob.proofs.reading.keep_last.Goals as goal

pub returns-in-Some : goal.returns-in-Some
returns-in-Some c =
    let is = rw c.in-Some.is at c.in_ok-literals.ensures in
    c.of_literals.ensures
    ∙ ap (λ (us : List TokenModel). live_model c.args.is_dir_only false (plain us ∷ [])) (sym (ap tokens_model is ∙ model_of_literals _))

pub returns-in-Some-2 : goal.returns-in-Some-2
returns-in-Some-2 c =
    let is = rw c.in-Some-2.is at c.in_ok-literals-2.ensures in
    let first = c.in-Some-Star-default in
    let tokens = first.ensures.cases.0 ∙ ap (λ (t : Token). t ∷ first.rest.now) first.field-0-0-is ∙ ap (λ (l : List Token). Star ∷ l) is in
    c.of_literals-in-Some-2.ensures
    ∙ ap (λ (us : List TokenModel). live_model c.args.is_dir_only false (plain us ∷ []))
    (sym (ap tokens_model tokens ∙ ap (λ (l : List TokenModel). star ∷ l) (model_of_literals _)))

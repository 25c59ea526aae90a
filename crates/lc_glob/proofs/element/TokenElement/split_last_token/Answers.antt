use Rattle.lc_glob.proofs.TokenLists.{model_last}
use Rattle.lc_glob.proofs.element.TokenElement.split_last_token.Goals as goal

pub returns-in-Some-of_token : goal.returns-in-Some-of_token
returns-in-Some-of_token c =
    let inv = c.tokens.invariant in
    model_last _ _ _ inv.0 _ _ inv.1 c.in-Some.ensures.cases.0 c.in-Some-of_token.ensures inv.2

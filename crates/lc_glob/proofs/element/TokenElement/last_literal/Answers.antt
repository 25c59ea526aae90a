use Rattle.lc_glob.proofs.EndLooks.{token_literal}
use Rattle.lc_glob.proofs.element.TokenElement.last_literal.Goals as goal

pub returns-in-Some-Literal-default : goal.returns-in-Some-Literal-default
returns-in-Some-Literal-default c =
    let found = c.in-Some-Literal-default in
    (found.field-0-1.now, found.field-0-0.now, found.ensures.cases.0, token_literal _ _ found.field-0-0-is)

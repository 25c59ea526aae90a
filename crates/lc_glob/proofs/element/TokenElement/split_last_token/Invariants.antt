use Rattle.std.proofs.Common.{◌≡◌, ◌++◌, List, [], length}
use Rattle.lc_glob.specs.{TokenLists.tokens_model, declared.token.Token.Token}
use Rattle.lc_glob.proofs.element.TokenElement.split_last_token.Given as goal

abbrev pub invariant-tokens : goal.invariant-tokens
invariant-tokens l = (after : List Token) × (l.tokens ≡ l.rest ++ after) × (tokens_model after ≡ [])

abbrev pub decreases-tokens : goal.decreases-tokens
decreases-tokens l = length l.rest

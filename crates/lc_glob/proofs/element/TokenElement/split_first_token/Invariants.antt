use Rattle.std.proofs.Common.{◌≡◌, length}
use Rattle.lc_glob.specs.TokenLists.{tokens_model}
use Rattle.lc_glob.proofs.element.TokenElement.split_first_token.Given as goal

abbrev pub invariant-tokens : goal.invariant-tokens
invariant-tokens l = tokens_model l.tokens ≡ tokens_model l.rest

abbrev pub decreases-tokens : goal.decreases-tokens
decreases-tokens l = length l.rest

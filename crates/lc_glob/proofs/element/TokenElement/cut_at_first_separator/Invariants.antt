use Rattle.std.proofs.Common.{◌≡◌, ◌++◌, List, false, length}
use Rattle.std.specs.List.{All}
use Rattle.lc_glob.specs.{TokenLists.is_separator, declared.token.Token.Token}
use Rattle.lc_glob.proofs.element.TokenElement.cut_at_first_separator.Given as goal

abbrev pub invariant-tokens : goal.invariant-tokens
invariant-tokens l = (before : List Token) × (l.tokens ≡ before ++ l.rest) × All (λ t. is_separator t ≡ false) before

abbrev pub decreases-tokens : goal.decreases-tokens
decreases-tokens l = length l.rest

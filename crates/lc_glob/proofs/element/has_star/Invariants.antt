use Rattle.std.proofs.Common.{◌≡◌, length}
use Rattle.std.specs.List.{list_any}
use Rattle.lc_glob.specs.Tokens.{is_star}
use Rattle.lc_glob.proofs.element.has_star.Given as goal

abbrev pub invariant-tokens : goal.invariant-tokens
invariant-tokens g l = list_any is_star (g.E.Element.tokens_in l.elements) ≡ list_any is_star (g.E.Element.tokens_in l.rest)

abbrev pub decreases-tokens : goal.decreases-tokens
decreases-tokens g l = length (g.E.Element.tokens_in l.rest)

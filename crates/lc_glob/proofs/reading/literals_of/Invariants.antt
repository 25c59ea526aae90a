use Rattle.std.proofs.Common.{◌≡◌, take}
use Rattle.lc_glob.specs.TokenLists.{literal_tokens}
use Rattle.lc_glob.proofs.reading.literals_of.Given as goal

abbrev pub invariant-loop-token : goal.invariant-loop-token
invariant-loop-token l = take l.token-index l.tokens ≡ literal_tokens l.literals.items

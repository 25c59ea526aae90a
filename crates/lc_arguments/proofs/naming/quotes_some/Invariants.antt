use Rattle.std.proofs.Common.{length, map}
use Rattle.lc_arguments.specs.Naming.{QuotesSome}
use Rattle.lc_arguments.proofs.naming.quotes_some.Given as goal

abbrev pub invariant-words : goal.invariant-words
invariant-words g l = QuotesSome (map g.W.AsStr.text l.rest) l.text → QuotesSome (map g.W.AsStr.text l.words) l.text

abbrev pub decreases-words : goal.decreases-words
decreases-words g l = length l.rest

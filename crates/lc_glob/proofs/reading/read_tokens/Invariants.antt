use Rattle.std.proofs.Common.{length}
use Rattle.lc_glob.specs.Reading.{parts}
use Rattle.lc_glob.proofs.Lexemes.{HasRead}
use Rattle.lc_glob.proofs.reading.read_tokens.Given as goal

abbrev pub invariant-tokens : goal.invariant-tokens
invariant-tokens l = HasRead (parts 0 l.bytes) l.tokens.items l.rest

abbrev pub decreases-tokens : goal.decreases-tokens
decreases-tokens l = length l.rest

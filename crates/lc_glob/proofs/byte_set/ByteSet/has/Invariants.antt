use Rattle.std.proofs.Common.{◌≡◌, length}
use Rattle.lc_glob.specs.{TokenLists.ranges_first, Tokens.in_ranges}
use Rattle.lc_glob.proofs.byte_set.ByteSet.has.Given as goal

abbrev pub invariant-tokens : goal.invariant-tokens
invariant-tokens l = in_ranges (ranges_first l.self.tokens.now) l.b ≡ in_ranges (ranges_first l.rest) l.b

abbrev pub decreases-tokens : goal.decreases-tokens
decreases-tokens l = length l.rest

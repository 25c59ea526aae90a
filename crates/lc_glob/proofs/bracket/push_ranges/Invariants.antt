use Rattle.std.proofs.Common.{◌≡◌, ◌++◌, take}
use Rattle.lc_glob.specs.TokenLists.{range_tokens}
use Rattle.lc_glob.proofs.bracket.push_ranges.Given as goal

abbrev pub invariant-loop-first : goal.invariant-loop-first
invariant-loop-first l = l.tokens.items ≡ l.initial.tokens.items ++ range_tokens (take l.first-index l.ranges)

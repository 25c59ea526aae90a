use Rattle.std.proofs.Common.{◌≡◌, ◌<◌, ℕ, get_or, is_some, true, None}
use Rattle.lc_rules.proofs.directories_above.told_count.Given as goal

abbrev pub invariant-loop-k : goal.invariant-loop-k
invariant-loop-k l = (j : ℕ) → j < l.k → is_some (get_or l.found j None) ≡ true

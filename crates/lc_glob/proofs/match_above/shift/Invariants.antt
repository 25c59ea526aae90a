use Rattle.std.proofs.Common.{◌≡◌, ◌≤◌, ◌<◌, ◌↔◌, ℕ, IsTrue, length, get_or, false}
use Rattle.lc_glob.specs.Above.{IsSet, Before}
use Rattle.lc_glob.proofs.match_above.shift.Given as goal

abbrev pub invariant-loop-k : goal.invariant-loop-k
invariant-loop-k l = record {
  len : length l.flags ≡ length l.initial.flags;
  done : (j : ℕ) → j < l.k → IsSet l.flags j ↔ Before (IsSet l.initial.flags) j;
  left : (j : ℕ) → l.k ≤ j → get_or l.flags j false ≡ get_or l.initial.flags j false;
  before : IsTrue l.before ↔ Before (IsSet l.initial.flags) l.k;
}

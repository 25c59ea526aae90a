use Rattle.std.proofs.Common.{◌≡◌, ◌≤◌, ◌<◌, ◌↔◌, ℕ, IsTrue, length, get_or, false}
use Rattle.lc_glob.specs.Above.{IsSet, UpTo}
use Rattle.lc_glob.proofs.match_above.spread.Given as goal

abbrev pub invariant-loop-k : goal.invariant-loop-k
invariant-loop-k l = record {
  len : length l.flags ≡ length l.initial.flags;
  done : (j : ℕ) → j < l.k → IsSet l.flags j ↔ UpTo (IsSet l.initial.flags) j;
  left : (j : ℕ) → l.k ≤ j → get_or l.flags j false ≡ get_or l.initial.flags j false;
  passed : IsTrue l.is_any ↔ ((i : ℕ) × (i < l.k) × IsSet l.initial.flags i);
}

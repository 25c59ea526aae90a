use Rattle.std.proofs.Common.{◌≡◌, ◌≤◌, ◌<◌, ◌↔◌, ◌+◌, ◌*◌, ℕ, length, take, get_or, false, []}
use Rattle.lc_glob.specs.{Above.{names_of, IsSet}, Costs.bytes_with_ends, Fits.Fits, Views.tokens_ref_model}
use Rattle.lc_glob.proofs.match_above.keep.Given as goal

abbrev pub invariant-loop-k : goal.invariant-loop-k
invariant-loop-k l = record {
  len : length l.flags ≡ length l.initial.flags;
  done : (j : ℕ) → j < l.k → IsSet l.flags j
      ↔ (IsSet l.initial.flags j × Fits (tokens_ref_model l.tokens) (get_or (names_of l.names.names.now) j []));
  left : (j : ℕ) → l.k ≤ j → get_or l.flags j false ≡ get_or l.initial.flags j false;
  cost : l.tests.made ≤ l.initial.tests.made
      + (length (tokens_ref_model l.tokens) + 1) * bytes_with_ends (names_of (take l.k l.names.names.now));
}

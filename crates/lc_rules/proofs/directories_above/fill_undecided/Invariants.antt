use Rattle.std.proofs.Common.{◌≡◌, ◌≤◌, ◌<◌, ℕ, cond, length, get_or, false, Some, None}
use Rattle.std.specs.{Prelude.option_map, Option.option_or}
use Rattle.lc_rules.proofs.directories_above.fill_undecided.Given as goal

abbrev pub invariant-loop-k : goal.invariant-loop-k
invariant-loop-k l = record {
  len : length l.found ≡ length l.initial.found;
  done : (j : ℕ) → j < l.k → option_map (λ r. r.now) (get_or l.found j None)
      ≡ option_or (option_map (λ r. r.now) (get_or l.initial.found j None)) (cond (get_or l.flags j false) (Some l.rule) None);
  left : (j : ℕ) → l.k ≤ j → get_or l.found j None ≡ get_or l.initial.found j None;
}

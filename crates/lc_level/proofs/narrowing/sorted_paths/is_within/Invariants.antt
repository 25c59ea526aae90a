use Rattle.std.proofs.Common.{◌≡◌, ◌<◌, ℕ, false, map}
use Rattle.lc_level.specs.PathSteps.{is_cut_among}
use Rattle.lc_level.proofs.narrowing.sorted_paths.is_within.Given as goal

abbrev pub invariant-loop-at : goal.invariant-loop-at
invariant-loop-at l = (i : ℕ) → i < l.at → is_cut_among (map (λ path. path.now) l.paths) l.directory i ≡ false

use Rattle.std.proofs.Common.{◌≡◌, ◌≤◌}
use Rattle.lc_glob.specs.PatternSets.{last_match_below}
use Rattle.lc_glob.proofs.pattern_set.PatternSet.last_match.Given as goal

abbrev pub invariant-patterns : goal.invariant-patterns
invariant-patterns l = record {
  within : l.rest ≤ l.below;
  same : last_match_below l.self l.path l.is_dir l.below ≡ last_match_below l.self l.path l.is_dir l.rest;
}

abbrev pub decreases-patterns : goal.decreases-patterns
decreases-patterns l = l.rest

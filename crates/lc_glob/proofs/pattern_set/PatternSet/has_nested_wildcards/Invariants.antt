use Rattle.std.proofs.Common.{◌≡◌, ◌≤◌, length, take}
use Rattle.std.specs.List.{list_any}
use Rattle.lc_glob.specs.Above.{has_nested_wildcards}
use Rattle.lc_glob.proofs.pattern_set.PatternSet.has_nested_wildcards.Given as goal

abbrev pub invariant-nested : goal.invariant-nested
invariant-nested l = record {
  within : l.rest ≤ length l.self;
  same : list_any has_nested_wildcards l.self ≡ list_any has_nested_wildcards (take l.rest l.self);
}

abbrev pub decreases-nested : goal.decreases-nested
decreases-nested l = l.rest

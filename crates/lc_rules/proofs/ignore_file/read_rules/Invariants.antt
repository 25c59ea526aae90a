use Rattle.std.proofs.Common.{◌≡◌, ◌≤◌, ◌+◌, length, ◌++◌}
use Rattle.std.specs.List.{filter_map, enumerate_from}
use Rattle.lc_rules.specs.{IgnoreRules.{patterns_of, rules_of, rule_of_line}, Limits.max_rule_bytes}
use Rattle.lc_rules.proofs.ignore_file.read_rules.Given as goal

abbrev pub invariant-lines : goal.invariant-lines
invariant-lines l = record {
  rules : rules_of l.bytes ≡ l.rules.items ++ filter_map rule_of_line (enumerate_from l.number l.rest);
  patterns : l.patterns ≡ patterns_of l.rules.items;
  few : l.number + length l.rest ≤ max_rule_bytes + 2;
}

abbrev pub decreases-lines : goal.decreases-lines
decreases-lines l = length l.rest

use Rattle.std.proofs.Common.{sym, ap, ap₂, arith, ◌++◌, ◌∙◌, length}
use Rattle.std.specs.List.{filter_map, enumerate_from}
use Rattle.lc_rules.specs.IgnoreRules.{patterns_of, rule_of_line}
use Rattle.lc_rules.proofs.RuleLineNumbers.{few_lines}
use Rattle.lc_rules.proofs.ignore_file.read_rules.Goals as goal

pub lines-init : goal.lines-init
lines-init c = record {
  rules = sym (ap₂ (λ read left. read ++ filter_map rule_of_line (enumerate_from 1 left)) c.new-rules.ensures.items c.of-rest.ensures);
  patterns = c.new-patterns.ensures ∙ sym (ap patterns_of c.new-rules.ensures.items);
  few = omega (arith, ap length c.of-rest.ensures, few_lines c.args.bytes.now);
}

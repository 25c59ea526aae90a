use Rattle.std.proofs.{Common.length, lemmas.Bool.{lt-ltb, ltb-true}}
use Rattle.lc_rules.specs.Limits.{max_rule_bytes}
use Rattle.lc_rules.proofs.faults.is_too_long.Goals as goal

pub returns : goal.returns
returns c = let n = length c.args.bytes.now in (λ t. ltb-true max_rule_bytes n t, λ l. lt-ltb max_rule_bytes n l)

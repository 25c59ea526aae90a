use Rattle.std.proofs.{Common.{◌∙◌, false, None, Some, ap, arith, length}, lemmas.List.length-map}
use Rattle.std.specs.Prelude.{option_map}
use Rattle.lc_glob.specs.Patterns.{dead}
use Rattle.lc_rules.specs.{IgnoreRules.RuleModel, Verdicts.{last_match, at_depth}, declared.rule_source.RuleSource.TheVariants.Gitignore}
use Rattle.lc_rules.proofs.LastRule.{pattern_decides}
use Rattle.lc_rules.proofs.ignore_file.IgnoreFile.last_match.Goals as goal

pub index-requires : goal.index-requires
index-requires c =
    omega (
      arith,
      c.in_ok-index.ensures.within,
      c.len-count.ensures,
      ap length c.self.invariant,
      length-map c.self.inside.rules.items (λ (r : RuleModel). r.pattern),
    )

pub returns-in_err-index : goal.returns-in_err-index
returns-in_err-index c =
    let any_rule : RuleModel = record { line = 0; is_negated = false; pattern = dead } in
    ap (option_map (λ r. (Gitignore 0, r.now))) c.from_residual.ensures
    ∙ pattern_decides any_rule c.self.inside.rules.items _ c.args.path.now _ c.args.is_dir _ None c.self.invariant
    c.for_patterns-candidate.ensures
    (c.len-count.ensures ∙ ap length c.self.invariant ∙ length-map c.self.inside.rules.items (λ (r : RuleModel). r.pattern))
    c.in_err-index.ensures.found
    ∙ ap (λ rules. last_match (at_depth 0 rules) c.args.path.now c.args.is_dir) c.self.view_is

pub returns : goal.returns
returns c =
    ap (λ (r : RuleModel). Some (Gitignore 0, r)) c.index.ensures
    ∙ pattern_decides c.index.result.now c.self.inside.rules.items _ c.args.path.now _ c.args.is_dir _ (Some c.in_ok-index.index)
    c.self.invariant c.for_patterns-candidate.ensures
    (c.len-count.ensures ∙ ap length c.self.invariant ∙ length-map c.self.inside.rules.items (λ (r : RuleModel). r.pattern))
    c.in_ok-index.ensures.found
    ∙ ap (λ rules. last_match (at_depth 0 rules) c.args.path.now c.args.is_dir) c.self.view_is

use Rattle.std.proofs.Common.{◌∙◌, ℕ, Bool, List, Option, None, Some, ap, ap₂, refl}
use Rattle.std.specs.{Global.Global, declared.sync.Arc.Arc, Prelude.option_map}
use Rattle.lc_rules.specs.{Chains.lent, IgnoreRules.RuleModel, IgnoreChains.{ChainModel, joined, rules_in}, Verdicts.last_match}
use Rattle.lc_rules.specs.declared.rule_source.RuleSource.TheVariants.{Gitignore, ExcludeFrom, InfoExclude, CommandLine}
use Rattle.lc_rules.proofs.LastRule.{chain_decides}
use Rattle.lc_rules.proofs.ignore_chain.Chain.last_match.Goals as goal

-- the chain of these files
abbrev seen : (exclude info : Option (Arc (List RuleModel) Global)) (tree : List (ℕ × List RuleModel))
    (command_line : Option (Arc (List RuleModel) Global)) (no_ignore : Bool) → ChainModel
seen exclude info tree command_line no_ignore =
    record { exclude = lent exclude; info = lent info; tree = tree; command_line = lent command_line; no_ignore = no_ignore }

pub returns-in-Some : goal.returns-in-Some
returns-in-Some c =
    chain_decides (seen c.self.inside.exclude c.self.inside.info c.self.inside.tree c.self.inside.command_line c.self.inside.no_ignore)
    c.args.path.now
    c.args.is_dir (Some (CommandLine, c.in-Some.rule.now)) _ _ _ (c.in-Some.ensures CommandLine refl) refl refl refl
    ∙ ap (λ m. last_match (rules_in m) c.args.path.now c.args.is_dir) c.self.view_is

pub returns-in-Some-by_tree : goal.returns-in-Some-by_tree
returns-in-Some-by_tree c =
    chain_decides (seen c.self.inside.exclude c.self.inside.info c.self.inside.tree c.self.inside.command_line c.self.inside.no_ignore)
    c.args.path.now
    c.args.is_dir None (Some (Gitignore c.in-Some-by_tree.depth, c.in-Some-by_tree.rule.now)) _ _ (c.in_default.ensures CommandLine refl)
    (c.in-Some-by_tree.ensures ∙ ap₂ (λ f p. last_match (joined f) p c.args.is_dir) c.left.ensures c.new.ensures) refl refl
    ∙ ap (λ m. last_match (rules_in m) c.args.path.now c.args.is_dir) c.self.view_is

pub returns-in-Some-last_match_in_file : goal.returns-in-Some-last_match_in_file
returns-in-Some-last_match_in_file c =
    chain_decides (seen c.self.inside.exclude c.self.inside.info c.self.inside.tree c.self.inside.command_line c.self.inside.no_ignore)
    c.args.path.now
    c.args.is_dir None None (Some (InfoExclude 0, c.in-Some-last_match_in_file.rule.now)) _ (c.in_default.ensures CommandLine refl)
    (c.in_default-by_tree.ensures ∙ ap₂ (λ f p. last_match (joined f) p c.args.is_dir) c.left.ensures c.new.ensures)
    (c.in-Some-last_match_in_file.ensures (InfoExclude 0) refl) refl
    ∙ ap (λ m. last_match (rules_in m) c.args.path.now c.args.is_dir) c.self.view_is

pub returns-in_err-rule : goal.returns-in_err-rule
returns-in_err-rule c =
    ap (option_map (λ r. (r.0, r.1.now))) c.from_residual.ensures
    ∙ chain_decides (seen c.self.inside.exclude c.self.inside.info c.self.inside.tree c.self.inside.command_line c.self.inside.no_ignore)
    c.args.path.now
    c.args.is_dir None None None None (c.in_default.ensures CommandLine refl)
    (c.in_default-by_tree.ensures ∙ ap₂ (λ f p. last_match (joined f) p c.args.is_dir) c.left.ensures c.new.ensures)
    (c.in_default-last_match_in_file.ensures (InfoExclude 0) refl) (c.in_err-rule.ensures ExcludeFrom refl)
    ∙ ap (λ m. last_match (rules_in m) c.args.path.now c.args.is_dir) c.self.view_is

pub returns : goal.returns
returns c =
    chain_decides (seen c.self.inside.exclude c.self.inside.info c.self.inside.tree c.self.inside.command_line c.self.inside.no_ignore)
    c.args.path.now
    c.args.is_dir None None None (Some (ExcludeFrom, c.in_ok-rule.rule.now)) (c.in_default.ensures CommandLine refl)
    (c.in_default-by_tree.ensures ∙ ap₂ (λ f p. last_match (joined f) p c.args.is_dir) c.left.ensures c.new.ensures)
    (c.in_default-last_match_in_file.ensures (InfoExclude 0) refl) (c.in_ok-rule.ensures ExcludeFrom refl)
    ∙ ap (λ m. last_match (rules_in m) c.args.path.now c.args.is_dir) c.self.view_is

-- Why an entry is left out, by the rule that decides and by its kind.
use Rattle.std.proofs.Common.{◌≡◌, ◌∙◌, ap, sym, refl, ℕ, Bool, true, false, List, Option, Some, None, bytes_eq, codes, cond}
use Rattle.std.specs.{Option.option_or, Prelude.if◌then◌else◌}
use Rattle.lc_glob.specs.Path.{path_in}
use Rattle.lc_level.specs.{Job.JobModel, Level.{by_rule, named_git, other_kind, rule_reason, reason_at, reason_for}, Filters.FiltersModel}
use Rattle.lc_tree.specs.{Kinds.is_dir, declared.entry.{Kind.{Kind, TheVariants.Other}, OtherKind.OtherKind}}
use Rattle.lc_rules.specs.{IgnoreRules.RuleModel, Verdicts.verdict_by, declared.rule_source.RuleSource.RuleSource}
use Rattle.lc_rules.specs.declared.verdicts.Verdict.TheVariants.{Ignored, Included}

-- a rule that ignores is told by its line
pub by_ignoring : (source : RuleSource) (rule : RuleModel) (line : ℕ) (decides : Option (RuleSource × RuleModel))
    → Some (source, rule) ≡ decides
    → Ignored ≡ verdict_by rule → line ≡ rule.line → Some (by_rule source line) ≡ rule_reason decides
by_ignoring source rule line decides is ignores at =
    ap (λ n. Some (by_rule source n)) at ∙ told rule.is_negated ignores ∙ ap rule_reason is
  where
    told : (negated : Bool) → Ignored ≡ (if negated then Included else Ignored)
        → Some (by_rule source rule.line) ≡ (if negated then None else Some (by_rule source rule.line))
    told true e = cc
    told false e = refl

-- what neither is named `.git` nor has another reason is left out for its kind
pub by_kind : (s : FiltersModel) (j : JobModel) (name path : List ℕ) (kind : Kind) (what : OtherKind) (dir : Bool) → kind ≡ Other what
    → false ≡ bytes_eq name (codes ".git") → path ≡ path_in j.path name → dir ≡ is_dir kind → None ≡ reason_at s j path dir
    → Some (other_kind what) ≡ reason_for s j name kind
by_kind s j name path kind what dir other named at as_dir none =
    sym (ap (reason_for s j name) other
    ∙ ap (λ b. option_or (cond b (Some named_git) (reason_at s j (path_in j.path name) false)) (Some (other_kind what))) (sym named)
    ∙ ap (λ p. option_or (reason_at s j p false) (Some (other_kind what))) (sym at)
    ∙ ap (λ b. option_or (reason_at s j path b) (Some (other_kind what))) (sym (as_dir ∙ ap is_dir other))
    ∙ ap (λ r. option_or r (Some (other_kind what))) (sym none))

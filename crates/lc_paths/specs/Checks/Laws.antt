-- The law of the rule that gives a path its word.
use Rattle.std.specs.Prelude.{◌≡◌, ℕ, Bool, true, false, List, Option, Some, None}
use Rattle.lc_rules.specs.{IgnoreRules.RuleModel, Verdicts.verdict_by, declared.verdicts.Verdict.TheVariants.{Ignored, NoRule}}
use Rattle.lc_paths.specs.Checks.{CheckText.{file_verdict, has_ignored_parent, verdict_word, path_word}, ExplainedText.path_rule}
use Rattle.lc_text.specs.PathLines.{is_bad_path}

-- the word for what a rule says, or `none` if there is no rule
abbrev pub rule_word : Option RuleModel → List ℕ
rule_word None = verdict_word NoRule
rule_word (Some rule) = verdict_word (verdict_by rule)

-- a bad path has no rule; a path below an ignored directory has a rule that ignores; the word of any other path is what its rule says
pub record RuleGivesWord (rules : List RuleModel) (path : List ℕ) (is_dir : Bool) : Type 0 where
  pub bad : is_bad_path path ≡ true → path_rule rules path is_dir ≡ None
  pub below : is_bad_path path ≡ false → has_ignored_parent (file_verdict rules) path ≡ true
      → (rule : RuleModel) × (path_rule rules path is_dir ≡ Some rule) × (verdict_by rule ≡ Ignored)
  pub own : is_bad_path path ≡ false → has_ignored_parent (file_verdict rules) path ≡ false
      → path_word (file_verdict rules) path is_dir ≡ rule_word (path_rule rules path is_dir)

abbrev pub WordLaw : Type 0
WordLaw = (rules : List RuleModel) (path : List ℕ) (is_dir : Bool) → RuleGivesWord rules path is_dir

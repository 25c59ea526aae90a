-- What a check finds for a path, and its word.
use Rattle.std.specs.{Prelude.{◌≡◌, ℕ, true, false, cond, List, codes, Option, Some, None, option_map, MatchOption}, Borrow.Bor}
use Rattle.lc_rules.specs.{IgnoreRules.RuleModel, Verdicts.verdict_by, declared.verdicts.Verdict.TheVariants.NoRule}
use Rattle.lc_paths.specs.Checks.CheckText.{file_verdict, is_ignored, has_ignored_parent, verdict_word}
use Rattle.lc_paths.specs.{Checks.ExplainedText.{file_rule, highest_ignored}, declared.checking.finding.Finding.Finding}
use Rattle.lc_paths.specs.declared.checking.finding.Finding.TheVariants.{Bad, Below, Decided}

-- the word of a finding
abbrev pub finding_word : Finding → List ℕ
finding_word Bad = codes "bad"
finding_word (Below rule) = codes "below"
finding_word (Decided None) = verdict_word NoRule
finding_word (Decided (Some rule)) = verdict_word (verdict_by rule.now)

-- the rule from which the word of a finding follows
abbrev pub finding_rule : Finding → Option RuleModel
finding_rule Bad = None
finding_rule (Below rule) = Some rule.now
finding_rule (Decided rule) = option_map (λ r. r.now) rule

-- the rule that ignores a directory, if it is ignored
abbrev pub ignoring_rule : List RuleModel → List ℕ → Option RuleModel
ignoring_rule rules directory = cond (is_ignored (file_verdict rules directory true)) (file_rule rules directory true) None

-- `found` is the rule that ignores the highest ignored directory above this path; or there is none, and no directory above it is ignored
abbrev pub IsIgnoringAbove : List RuleModel → List ℕ → Option (Bor RuleModel) → Type 0
IsIgnoringAbove rules path found =
    MatchOption found (has_ignored_parent (file_verdict rules) path ≡ false)
    (λ r. (has_ignored_parent (file_verdict rules) path ≡ true)
    × (file_rule rules (highest_ignored (file_verdict rules) path) true ≡ Some r.now))

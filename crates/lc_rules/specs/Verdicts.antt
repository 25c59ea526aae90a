-- What rules say of a path: gitignore(5), DESCRIPTION, on the order of precedence.
use Rattle.std.specs.{Prelude.{ℕ, zero, suc, Bool, if◌then◌else◌, List, map, filter, Option, Some, None}, List.{after_first, last_or}}
use Rattle.lc_glob.specs.{Bytes.slash, Pieces.is_byte, IsMatch.is_match}
use Rattle.lc_rules.specs.IgnoreRules.{RuleModel}
use Rattle.lc_rules.specs.declared.rule_source.RuleSource.{RuleSource, TheVariants.{ExcludeFrom, InfoExclude, Gitignore, CommandLine}}
use Rattle.lc_rules.specs.declared.verdicts.Verdict.{Verdict, TheVariants.{Ignored, Included, NoRule}}

-- a path without its first segments: the path as seen from a directory at this depth
abbrev pub below : ℕ → List ℕ → List ℕ
below zero path = path
below (suc depth) path = below depth (after_first (is_byte slash) path)

-- the depth of the directory whose paths the rules of a source are matched with
abbrev pub depth_at : RuleSource → ℕ
depth_at ExcludeFrom = 0
depth_at (InfoExclude depth) = depth
depth_at (Gitignore depth) = depth
depth_at CommandLine = 0

-- whether a rule of a file of this source matches a path
abbrev pub rule_matches : List ℕ → Bool → (RuleSource × RuleModel) → Bool
rule_matches path is_dir rule = is_match rule.1.pattern (below (depth_at rule.0) path) is_dir

-- the verdict of a rule on a path that it matches
abbrev pub verdict_by : RuleModel → Verdict
verdict_by rule = if rule.is_negated then Included else Ignored

-- the rule that decides: the last one that matches, if any does
abbrev pub last_match : List (RuleSource × RuleModel) → List ℕ → Bool → Option (RuleSource × RuleModel)
last_match rules path is_dir = last_or None (filter (rule_matches path is_dir) rules)

-- the verdict of the rule that decides, if any does
abbrev pub verdict_from : Option (RuleSource × RuleModel) → Verdict
verdict_from None = NoRule
verdict_from (Some rule) = verdict_by rule.1

-- the verdict of these rules on a path
abbrev pub verdict_of : List (RuleSource × RuleModel) → List ℕ → Bool → Verdict
verdict_of rules path is_dir = verdict_from (last_match rules path is_dir)

-- the rules of a file, each with the file's source
abbrev pub from_file : RuleSource → List RuleModel → List (RuleSource × RuleModel)
from_file source rules = map (λ r. (source, r)) rules

-- the rules of a `.gitignore` in a directory at this depth
abbrev pub at_depth : ℕ → List RuleModel → List (RuleSource × RuleModel)
at_depth depth rules = from_file (Gitignore depth) rules

-- The orders of errors and of skipped entries: by their paths, then by their other fields, one after another.
use Rattle.std.specs.{Prelude.{ℕ, List, [], unwrap_or}, Option.option_map_or, declared.cmp.Ordering.Ordering, Ordering.{nat_cmp, on}}
use Rattle.std.specs.Ordering.{then_cmp}
use Rattle.lc_level.specs.{FaultLines.FaultLineModel, FaultWords.fault_word, Level.{Reason, SkippedLineModel}, ReasonWords.attribute_of}
use Rattle.lc_level.specs.ReasonWords.{reason_word, rule_of}
use Rattle.lc_rules.specs.{Verdicts.depth_at, declared.rule_source.RuleSource.RuleSource}
use Rattle.lc_rules.specs.declared.rule_source.RuleSource.TheVariants.{ExcludeFrom, InfoExclude, Gitignore, CommandLine}
use Rattle.lc_tree.specs.{ByteOrder.bytes_cmp, declared.entry.Kind.{Kind, TheVariants.{File, Dir, Other}}}
use Rattle.lc_tree.specs.declared.entry.OtherKind.TheVariants.{Special, Mounted}

-- compares errors by their paths, then by their words
unfoldable pub fault_cmp : FaultLineModel → FaultLineModel → Ordering
fault_cmp = then_cmp (on (λ (f : FaultLineModel). f.path) bytes_cmp) (on (λ (f : FaultLineModel). fault_word f.word) bytes_cmp)

-- the order of the rule files of one directory
abbrev pub source_place : RuleSource → ℕ
source_place CommandLine = 0
source_place ExcludeFrom = 1
source_place (InfoExclude depth) = 2
source_place (Gitignore depth) = 3

abbrev pub kind_place : Kind → ℕ
kind_place File = 0
kind_place Dir = 1
kind_place (Other Special) = 2
kind_place (Other Mounted) = 3

-- the depth of the directory of the rule's file, the place of the file, and the rule's line: each is 0 if no rule is the reason
abbrev pub rule_depth : Reason → ℕ
rule_depth r = option_map_or (λ rule. depth_at rule.0) (rule_of r) 0

abbrev pub rule_place : Reason → ℕ
rule_place r = option_map_or (λ rule. source_place rule.0) (rule_of r) 0

abbrev pub rule_line : Reason → ℕ
rule_line r = option_map_or (λ rule. rule.1) (rule_of r) 0

-- the attribute that is the reason, as the filters have it, or no bytes
abbrev pub attribute_word : Reason → List ℕ
attribute_word r = unwrap_or (attribute_of r) []

-- compares reasons by their words, then by the depth and the place of the rule's file, then by the rule's line, then by the attribute
unfoldable pub reason_cmp : Reason → Reason → Ordering
reason_cmp = then_cmp (on reason_word bytes_cmp) (then_cmp (on rule_depth nat_cmp) (then_cmp (on rule_place nat_cmp)
    (then_cmp (on rule_line nat_cmp) (on attribute_word bytes_cmp))))

-- compares skipped entries by their paths, then by their reasons, then by their kinds
unfoldable pub skipped_cmp : SkippedLineModel → SkippedLineModel → Ordering
skipped_cmp = then_cmp (on (λ (l : SkippedLineModel). l.path) bytes_cmp) (then_cmp (on (λ (l : SkippedLineModel). l.reason) reason_cmp)
    (on (λ (l : SkippedLineModel). kind_place l.kind) nat_cmp))

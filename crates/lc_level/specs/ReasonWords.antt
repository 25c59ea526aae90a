-- What a report shows of the reason for which an entry is skipped.
use Rattle.std.specs.Prelude.{ℕ, List, codes, Option, Some, None}
use Rattle.lc_level.specs.Level.{Reason, named_git, by_rule, by_attribute, not_included, other_kind}
use Rattle.lc_rules.specs.declared.rule_source.RuleSource.{RuleSource}
use Rattle.lc_tree.specs.declared.entry.OtherKind.TheVariants.{Special, Mounted}

-- the word by which reports name a reason
abbrev pub reason_word : Reason → List ℕ
reason_word named_git = codes "git"
reason_word (by_rule source line) = codes "rule"
reason_word (by_attribute word) = codes "attribute"
reason_word not_included = codes "include"
reason_word (other_kind Special) = codes "other"
reason_word (other_kind Mounted) = codes "filesystem"

-- the source of the rule and the number of its line, where a rule is the reason
abbrev pub rule_of : Reason → Option (RuleSource × ℕ)
rule_of named_git = None
rule_of (by_rule source line) = Some (source, line)
rule_of (by_attribute word) = None
rule_of not_included = None
rule_of (other_kind what) = None

-- the word of the filters, where an attribute is the reason
abbrev pub attribute_of : Reason → Option (List ℕ)
attribute_of named_git = None
attribute_of (by_rule source line) = None
attribute_of (by_attribute word) = Some word
attribute_of not_included = None
attribute_of (other_kind what) = None

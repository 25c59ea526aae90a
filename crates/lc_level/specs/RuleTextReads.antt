-- What reading a file of rules whole may return, by its reads.
use Rattle.std.specs.{Prelude.{ℕ, List, Result, Ok, Err, Vec}, Global.Global}
use Rattle.lc_io.specs.{Reads.Answer, Whole.AnswersWhole, declared.whole.WholeFault.WholeFault}
use Rattle.lc_rules.specs.{Limits.max_rule_bytes, declared.faults.RuleFault.RuleFault}
use Rattle.lc_level.specs.declared.rule_files.rule_text.RulesFileFault.{RulesFileFault, TheVariants.{Read, TooLong, Memory}}
use Rattle.lc_io.specs.declared.whole.WholeFault.TheVariants as whole
use Rattle.lc_rules.specs.declared.faults.RuleFault.TheVariants as rule

-- the error for a file that was not read whole
abbrev pub file_fault : WholeFault → RulesFileFault
file_fault whole.Read = Read
file_fault whole.TooLong = TooLong
file_fault whole.Memory = Memory

-- the error for bytes that gave no rules
abbrev pub bytes_fault : RuleFault → RulesFileFault
bytes_fault rule.TooLong = TooLong
bytes_fault rule.Memory = Memory

-- the bytes of a file that was read whole; or the reads failed, or gave more bytes than a file of rules may have
abbrev pub ReadsRuleText : {S : Type 0} → (S → ℕ → Answer → S → Type 0) → S → Result (List ℕ) RulesFileFault → S → Type 0
ReadsRuleText may_give old (Ok bytes) new = AnswersWhole may_give max_rule_bytes old (Ok tt) bytes new
ReadsRuleText may_give old (Err Read) new = (bytes : List ℕ) × AnswersWhole may_give max_rule_bytes old (Err whole.Read) bytes new
ReadsRuleText may_give old (Err TooLong) new =
    (bytes : List ℕ) × AnswersWhole may_give max_rule_bytes old (Err whole.TooLong) bytes new
ReadsRuleText may_give old (Err Memory) new = Unit {0}

-- like `ReadsRuleText`, with the bytes as a vector
abbrev pub ReadsRuleBytes : {S : Type 0} → (S → ℕ → Answer → S → Type 0) → S → Result (Vec ℕ Global) WholeFault → S → Type 0
ReadsRuleBytes may_give old (Ok bytes) new = ReadsRuleText may_give old (Ok bytes.items) new
ReadsRuleBytes may_give old (Err fault) new = ReadsRuleText may_give old (Err (file_fault fault)) new

-- A file of rules that was opened.
use Rattle.std.proofs.Common.{◌≡◌, ◌≤◌, ◌+◌, ℕ, List, length, None, Result, Ok, Err, subst, sym}
use Rattle.lc_io.specs.Reads.{Answer, at_end, at_failure, at_neither}
use Rattle.lc_level.specs.{RuleTextReads.ReadsRuleText, declared.rule_files.rule_text.RulesFileFault.RulesFileFault}
use Rattle.lc_rules.specs.Limits.{max_rule_bytes}
use Rattle.lc_tree.specs.Trees.{Contents, GivesOnly}
use Rattle.lc_program.specs.Filters.{LoadsFile}
use Rattle.lc_level.specs.declared.rule_files.rule_text.RulesFileFault.TheVariants as fault

-- what reading an opened file answered is what loading it answers
module _ {F : Type 0} (may_give : F → ℕ → Answer → F → Type 0) (gives : Contents) (file read : F)
    (only : GivesOnly may_give gives file) where
  pub loads_file : (answer : Result (List ℕ) RulesFileFault) → ReadsRuleText may_give file answer read → LoadsFile gives answer
  loads_file (Ok bytes) reads = (reads.1.pieces, only None reads.1.pieces at_end read reads.1.reads, reads.1.joined, reads.0)
  loads_file (Err fault.Read) reads =
      let given = reads.1.1 in (
        given.pieces,
        only None given.pieces at_failure read given.reads,
        subst (λ (bytes : List ℕ). length bytes ≤ max_rule_bytes) (sym given.joined) reads.1.0,
      )
  loads_file (Err fault.TooLong) reads =
      let given = reads.1.1 in (
        given.pieces,
        only None given.pieces at_neither read given.reads,
        subst (λ (bytes : List ℕ). length bytes ≡ max_rule_bytes + 1) (sym given.joined) reads.1.0,
      )
  loads_file (Err fault.Memory) reads = tt

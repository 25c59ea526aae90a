-- What opening and reading one file may return.
use Rattle.std.specs.{Prelude.{◌≡◌, ℕ, ◌≤◌, ◌<◌, ◌+◌, ◌^◌, List, length, None, Some, Result, Ok, Err}, List.concat}
use Rattle.lc_census.specs.{Census.IsCensus, declared.line_count.Count.Count}
use Rattle.lc_io.specs.{Buffers.buffer_len, Reads.{at_end, at_failure, at_neither}}
use Rattle.lc_rules.specs.Limits.{max_rule_bytes}
use Rattle.lc_tree.specs.{MemTrees.mem_gives, OneAnswer.content_at, Trees.Contents, declared.node.Node.Node}
use Rattle.lc_level.specs.declared.{fault_word.FaultWord.FaultWord, content_fault.ContentFault.ContentFault}
use Rattle.lc_level.specs.declared.fault_word.FaultWord.TheVariants as word
use Rattle.lc_level.specs.declared.content_fault.ContentFault.TheVariants as content_fault

-- the result is one that may come, or an allocation failed
abbrev pub IsAnswer : {A B : Type 0} → (Result A FaultWord → Type 0) → (B → A) → Result B ContentFault → Type 0
IsAnswer may view (Ok x) = may (Ok (view x))
IsAnswer may view (Err (content_fault.Fault word)) = may (Err word)
IsAnswer may view (Err content_fault.Memory) = Unit {0}

-- what counting a file with these contents may return, by reads of up to 65,536 bytes: its census, an error of a failed read, or an error
-- if there is no end within 2^32 reads
abbrev pub MayCount : Contents → Result Count FaultWord → Type 0
MayCount gives (Ok count) = (pieces : List (List ℕ)) × gives (Some buffer_len) pieces at_end × IsCensus (concat pieces) count
MayCount gives (Err word.Read) = (pieces : List (List ℕ)) × gives (Some buffer_len) pieces at_failure
MayCount gives (Err word.Endless) = (pieces : List (List ℕ)) × gives (Some buffer_len) pieces at_neither × (length pieces ≡ 2 ^ 32)
MayCount gives (Err word.Name) = ⊥
MayCount gives (Err word.Twice) = ⊥
MayCount gives (Err word.Many) = ⊥
MayCount gives (Err word.Long) = ⊥
MayCount gives (Err word.Absent) = ⊥

-- what reading a file with these contents as a rule file may return: its bytes, an error of a read that failed before the bytes were too
-- many, or an error at one byte more than a rule file may have
abbrev pub MayReadRules : Contents → Result (List ℕ) FaultWord → Type 0
MayReadRules gives (Ok bytes) =
    (pieces : List (List ℕ)) × gives None pieces at_end × (concat pieces ≡ bytes) × (length bytes ≤ max_rule_bytes)
MayReadRules gives (Err word.Read) = (pieces : List (List ℕ)) × gives None pieces at_failure × (length (concat pieces) ≤ max_rule_bytes)
MayReadRules gives (Err word.Long) =
    (pieces : List (List ℕ)) × gives None pieces at_neither × (length (concat pieces) ≡ max_rule_bytes + 1)
MayReadRules gives (Err word.Endless) = ⊥
MayReadRules gives (Err word.Name) = ⊥
MayReadRules gives (Err word.Twice) = ⊥
MayReadRules gives (Err word.Many) = ⊥
MayReadRules gives (Err word.Absent) = ⊥

-- counting a file in memory of under 2^47 bytes has only one result, since 2^32 reads of 65,536 bytes reach its end
abbrev pub CountsOnce : Type 0
CountsOnce =
    (top : Node) (path : List ℕ) (a b : Result Count FaultWord) → length (content_at top path).bytes < 2 ^ 47
    → MayCount (mem_gives top path) a → MayCount (mem_gives top path) b → a ≡ b

-- reading a file in memory as a rule file has only one result
abbrev pub ReadsRulesOnce : Type 0
ReadsRulesOnce = (top : Node) (path : List ℕ) (a b : Result (List ℕ) FaultWord) → MayReadRules (mem_gives top path) a
    → MayReadRules (mem_gives top path) b → a ≡ b

-- What a file in memory gives, as values: when it is counted, and when it is read as a rule file.
use Rattle.std.specs.Prelude.{ℕ, cond, nat_lt, List, length, Result, Ok, Err}
use Rattle.lc_census.specs.{Census.count_of, TheCutting.cut, declared.line_count.Count.Count}
use Rattle.lc_rules.specs.Limits.{max_rule_bytes}
use Rattle.lc_tree.specs.Trees.{Content}
use Rattle.lc_level.specs.declared.fault_word.FaultWord.{FaultWord, TheVariants.{Read, Long}}

-- the census of bytes, by the one cutting that they have
abbrev pub census : List ℕ → Count
census bytes = count_of bytes (cut bytes)

-- counting it gives the census of its bytes, unless it fails
abbrev pub counted : Content → Result Count FaultWord
counted file = cond file.fails (Err Read) (Ok (census file.bytes))

-- reading it as rules gives its bytes, unless they are too many or it fails
abbrev pub read_as_rules : Content → Result (List ℕ) FaultWord
read_as_rules file = cond (nat_lt max_rule_bytes (length file.bytes)) (Err Long) (cond file.fails (Err Read) (Ok file.bytes))

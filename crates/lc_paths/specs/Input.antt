-- An input that is read whole.
use Rattle.std.specs.{Prelude.{ℕ, List, Result, Ok, Err, Vec}, Global.Global}
use Rattle.lc_io.specs.{Reads.Answer, Whole.AnswersWhole, declared.whole.WholeFault.{WholeFault, TheVariants.{Read, TooLong, Memory}}}

-- the most bytes of an input
abbrev pub max_input : ℕ
max_input = 16777216

-- an input that is read whole, up to that limit
abbrev pub AnswersInput : {I : Type 0} → (I → ℕ → Answer → I → Type 0) → I → Result (Unit {0}) WholeFault → List ℕ → I → Type 0
AnswersInput may_give old answer bytes new = AnswersWhole may_give max_input old answer bytes new

-- the bytes of an input that was read whole; or the reads failed, or gave more bytes than the limit
abbrev pub ReadsInput : {I : Type 0} → (I → ℕ → Answer → I → Type 0) → I → Result (Vec ℕ Global) WholeFault → I → Type 0
ReadsInput may_give old (Ok bytes) new = AnswersInput may_give old (Ok tt) bytes.items new
ReadsInput may_give old (Err Read) new = (bytes : List ℕ) × AnswersInput may_give old (Err Read) bytes new
ReadsInput may_give old (Err TooLong) new = (bytes : List ℕ) × AnswersInput may_give old (Err TooLong) bytes new
ReadsInput may_give old (Err Memory) new = Unit {0}

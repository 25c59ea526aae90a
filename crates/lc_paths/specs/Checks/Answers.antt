-- The results of a check, by its reads and its writes.
use Rattle.std.specs.Prelude.{◌≡◌, ℕ, ◌<◌, ◌≤◌, List, [], length, Result, Ok, Err}
use Rattle.lc_io.specs.{declared.source.Failed.Failed, Reads.Answer, Pieces.AnswersInPieces, Writes.{Writes, StopsWriting}}
use Rattle.lc_rules.specs.Limits.{max_rule_bytes}
use Rattle.lc_paths.specs.{Input.AnswersInput, declared.check_fault.CheckFault.CheckFault}
use Rattle.lc_paths.specs.declared.check_fault.CheckFault.TheVariants.{Read, InputTooLong, RulesTooLong, Memory, Write}
use Rattle.lc_paths.specs.Answers.{AnswersAsMade}
use Rattle.lc_io.specs.declared.whole.WholeFault.TheVariants as whole

-- an input with no rules in it
abbrev pub no_rules : List ℕ → List ℕ
no_rules bytes = []

-- the result of a check, if `rules_in` and `text_of` are the rules in the input's bytes and the output for them
module _ {I O : Type 0} (may_give : I → ℕ → Answer → I → Type 0) (may_take : O → List ℕ → Result ℕ Failed → O → Type 0)
    (rules_in text_of : List ℕ → List ℕ) where
  -- the input was read whole, and its rules are no longer than a rule file may be
  abbrev pub HasRead : I → List ℕ → I → Type 0
  HasRead input bytes read = AnswersInput may_give input (Ok tt) bytes read × (length (rules_in bytes) ≤ max_rule_bytes)

  abbrev pub AnswersCheck : I → O → Result (Unit {0}) CheckFault → I → O → Type 0
  -- the text was written whole
  AnswersCheck input out (Ok _) read wrote = (bytes : List ℕ) × HasRead input bytes read × Writes may_take out (text_of bytes) wrote
  -- a read of the input failed
  AnswersCheck input out (Err Read) read wrote =
      ((bytes : List ℕ) × AnswersInput may_give input (Err whole.Read) bytes read) × (wrote ≡ out)
  -- the input is too long
  AnswersCheck input out (Err InputTooLong) read wrote =
      ((bytes : List ℕ) × AnswersInput may_give input (Err whole.TooLong) bytes read) × (wrote ≡ out)
  -- the input was read whole, and its rules are too long
  AnswersCheck input out (Err RulesTooLong) read wrote =
      ((bytes : List ℕ) × AnswersInput may_give input (Ok tt) bytes read × (max_rule_bytes < length (rules_in bytes)))
      × (wrote ≡ out)
  -- nothing was written
  AnswersCheck input out (Err Memory) read wrote = wrote ≡ out
  -- a prefix of the text was written
  AnswersCheck input out (Err Write) read wrote =
      (bytes : List ℕ) × HasRead input bytes read × StopsWriting may_take out (text_of bytes) wrote

-- the result of an explained check, whose output is written while it is made; `text_of` is the output for the input's bytes
module _ {I O : Type 0} (may_give : I → ℕ → Answer → I → Type 0) (may_take : O → List ℕ → Result ℕ Failed → O → Type 0)
    (text_of : List ℕ → List ℕ) where
  abbrev pub AnswersExplainedCheck : I → O → Result (Unit {0}) CheckFault → I → O → Type 0
  AnswersExplainedCheck = AnswersAsMade may_give (λ bytes out. AnswersInPieces may_take out (text_of bytes))

-- The results of a call that reads an input whole, and writes its output while it is made.
use Rattle.std.specs.Prelude.{◌≡◌, ◌⊎◌, ℕ, List, Result, Ok, Err}
use Rattle.lc_io.specs.{Reads.Answer, declared.printing.PrintFault.PrintFault}
use Rattle.lc_paths.specs.{Input.AnswersInput, declared.check_fault.CheckFault.CheckFault}
use Rattle.lc_paths.specs.declared.check_fault.CheckFault.TheVariants.{Read, InputTooLong, RulesTooLong, Memory, Write}
use Rattle.lc_io.specs.declared.whole.WholeFault.TheVariants as whole
use Rattle.lc_io.specs.declared.printing.PrintFault.TheVariants as print

-- the result of the call, by what was read, and by what writing the output gives
module _ {I O V : Type 0} (may_give : I → ℕ → Answer → I → Type 0) (AnswersOutput : List ℕ → O → Result V PrintFault → O → Type 0) where
  abbrev pub AnswersAsMade : I → O → Result V CheckFault → I → O → Type 0
  -- the input was read whole, and all was written
  AnswersAsMade input out (Ok v) read wrote =
      (bytes : List ℕ) × AnswersInput may_give input (Ok tt) bytes read × AnswersOutput bytes out (Ok v) wrote
  -- a read of the input failed
  AnswersAsMade input out (Err Read) read wrote =
      ((bytes : List ℕ) × AnswersInput may_give input (Err whole.Read) bytes read) × (wrote ≡ out)
  -- the input is too long
  AnswersAsMade input out (Err InputTooLong) read wrote =
      ((bytes : List ℕ) × AnswersInput may_give input (Err whole.TooLong) bytes read) × (wrote ≡ out)
  -- the input has no rules
  AnswersAsMade input out (Err RulesTooLong) read wrote = ⊥
  -- nothing was written, or the input was read whole and there was no memory for the rest of what is written
  AnswersAsMade input out (Err Memory) read wrote =
      (wrote ≡ out)
      ⊎ ((bytes : List ℕ) × AnswersInput may_give input (Ok tt) bytes read × AnswersOutput bytes out (Err print.Memory) wrote)
  -- the input was read whole, and a write failed or took nothing
  AnswersAsMade input out (Err Write) read wrote =
      (bytes : List ℕ) × AnswersInput may_give input (Ok tt) bytes read × AnswersOutput bytes out (Err print.Write) wrote

-- What a call answers whose output stops as it is made.
use Rattle.std.proofs.Common.{◌≡◌, ℕ, List, Result, Ok, Err, inr}
use Rattle.std.specs.Result.{IsErrAnd}
use Rattle.lc_io.specs.{Reads.Answer, declared.printing.PrintFault.PrintFault}
use Rattle.lc_level.proofs.PassedOn.{passed_on}
use Rattle.lc_paths.specs.{CheckFaults.print_fault, Input.AnswersInput, declared.check_fault.CheckFault.CheckFault, Answers.AnswersAsMade}
use Rattle.lc_io.specs.declared.printing.PrintFault.TheVariants as print

module _ {I O V : Type 0} (may_give : I → ℕ → Answer → I → Type 0) (AnswersOutput : List ℕ → O → Result V PrintFault → O → Type 0)
    (bytes : List ℕ) (input read : I) (out wrote : O) (given : AnswersInput may_give input (Ok tt) bytes read) where
  stopped : (fault : PrintFault) → AnswersOutput bytes out (Err fault) wrote
      → AnswersAsMade may_give AnswersOutput input out (Err (print_fault fault)) read wrote
  stopped print.Write stops = (bytes, given, stops)
  stopped print.Memory stops = inr (bytes, given, stops)

  -- the input was read whole, and the output was not written whole
  pub output_stops : (fault : PrintFault) (answer : Result V CheckFault) → IsErrAnd answer (λ e. e ≡ print_fault fault)
      → AnswersOutput bytes out (Err fault) wrote → AnswersAsMade may_give AnswersOutput input out answer read wrote
  output_stops fault answer is stops =
      passed_on (λ a. AnswersAsMade may_give AnswersOutput input out a read wrote) answer (print_fault fault) is (stopped fault stops)

-- A check that stops at a fault of its input or of its output.
use Rattle.std.proofs.Common.{◌≡◌, ℕ, ◌<◌, List, length, Result, Ok, Err, refl}
use Rattle.std.specs.Result.{IsErrAnd}
use Rattle.lc_io.specs.{declared.{source.Failed.Failed, printing.PrintFault.PrintFault}, Reads.Answer, Writes.AnswersPrint}
use Rattle.lc_level.proofs.PassedOn.{passed_on}
use Rattle.lc_rules.specs.{Limits.max_rule_bytes, declared.faults.RuleFault.RuleFault}
use Rattle.lc_paths.specs.{declared.check_fault.CheckFault.CheckFault, Input.AnswersInput, CheckFaults.{rules_fault, print_fault}}
use Rattle.lc_paths.specs.Checks.Answers.{HasRead, AnswersCheck}
use Rattle.lc_rules.specs.declared.faults.RuleFault.TheVariants as rule
use Rattle.lc_io.specs.declared.printing.PrintFault.TheVariants as print

module _ {I O : Type 0} (may_give : I → ℕ → Answer → I → Type 0) (may_take : O → List ℕ → Result ℕ Failed → O → Type 0)
    (rules_in text_of : List ℕ → List ℕ) (input read : I) (out : O) (bytes : List ℕ) where
  abbrev Answers : O → Result (Unit {0}) CheckFault → Type 0
  Answers wrote answer = AnswersCheck may_give may_take rules_in text_of input out answer read wrote

  rules_stopped : (fault : RuleFault) → AnswersInput may_give input (Ok tt) bytes read
      → (fault ≡ rule.TooLong → max_rule_bytes < length (rules_in bytes)) → Answers out (Err (rules_fault fault))
  rules_stopped rule.TooLong answers long = ((bytes, answers, long refl), refl)
  rules_stopped rule.Memory answers long = refl

  -- the rules in the input are too long, or there is no memory for them
  pub rules_stop : (fault : RuleFault) (answer : Result (Unit {0}) CheckFault) → IsErrAnd answer (λ e. e ≡ rules_fault fault)
      → AnswersInput may_give input (Ok tt) bytes read → (fault ≡ rule.TooLong → max_rule_bytes < length (rules_in bytes))
      → Answers out answer
  rules_stop fault answer is answers long = passed_on (Answers out) answer (rules_fault fault) is (rules_stopped fault answers long)

  output_stopped : (wrote : O) (fault : PrintFault) → HasRead may_give may_take rules_in text_of input bytes read
      → AnswersPrint may_take out (text_of bytes) (Err fault) wrote → Answers wrote (Err (print_fault fault))
  output_stopped wrote print.Write has_read stopped = (bytes, has_read, stopped)
  output_stopped wrote print.Memory has_read stopped = stopped

  -- the text was not written whole
  pub text_stops : (wrote : O) (fault : PrintFault) (answer : Result (Unit {0}) CheckFault) → IsErrAnd answer (λ e. e ≡ print_fault fault)
      → HasRead may_give may_take rules_in text_of input bytes read → AnswersPrint may_take out (text_of bytes) (Err fault) wrote
      → Answers wrote answer
  text_stops wrote fault answer is has_read stopped =
      passed_on (Answers wrote) answer (print_fault fault) is (output_stopped wrote fault has_read stopped)

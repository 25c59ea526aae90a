-- Faults that are passed on as replies.
use Rattle.std.proofs.Common.{◌≡◌, ◌∙◌, Result, Ok, Err, ap, sym}
use Rattle.std.specs.Result.{IsErrAnd}
use Rattle.lc_paths.specs.declared.check_fault.CheckFault.{CheckFault}
use Rattle.lc_program.specs.{Causes.check_cause, Replies.{Reply, checked}, declared.cause.Cause.Cause}

-- the fault of a check that was passed on is the reply
pub fault_replied : (reply : Reply) (answer : Result (Unit {0}) CheckFault) (fault : CheckFault)
    → IsErrAnd reply (λ cause. cause ≡ check_cause fault) → answer ≡ Err fault → reply ≡ checked answer
fault_replied (Ok outcome) answer fault is was = absurd is
fault_replied (Err cause) answer fault is was = ap Err is ∙ sym (ap checked was)

-- a cause that was passed on is the reply
pub given_up : (reply : Reply) (cause : Cause) → IsErrAnd reply (λ given. given ≡ cause) → reply ≡ Err cause
given_up (Ok answered) cause is = absurd is
given_up (Err given) cause is = ap Err is

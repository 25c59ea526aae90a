-- A table that is written, and one that stops at a fault of its output, and so the run.
use Rattle.std.proofs.Common.{◌≡◌, Result, Ok, Err, List, ℕ, String, sym}
use Rattle.std.specs.{Global.Global, Result.IsErrAnd}
use Rattle.lc_io.specs.{declared.{printing.PrintFault.PrintFault, source.Failed.Failed}, Writes.AnswersPrint}
use Rattle.lc_walk.specs.declared.{report.Report.Report, walk_fault.WalkFault.WalkFault}
use Rattle.lc_program.specs.{ReportTexts.{IsPrinted, Showing}, Runs.{AnswersRun, AnswersTable, table_fault}}
use Rattle.lc_program.specs.declared.runs.{Printed.Printed, RunFault.RunFault}
use Rattle.lc_io.specs.declared.printing.PrintFault.TheVariants as print

-- a table that was not written whole
pub run_stops : {O : Type 0} (may_take : O → List ℕ → Result ℕ Failed → O → Type 0) (walks : Result Report WalkFault → Type 0)
    (s : Showing) (r left : Report) (fault : PrintFault) (answer : Result Printed RunFault) (out wrote : O) → walks (Ok r)
    → AnswersTable may_take s r left out (Err fault) wrote → IsErrAnd answer (λ e. e ≡ table_fault fault)
    → AnswersRun may_take walks s out answer wrote
run_stops may_take walks s r left fault (Ok shown) out wrote walked stopped is = absurd is
run_stops may_take walks s r left print.Write (Err e) out wrote walked stopped is = rw is (r, walked, (left, stopped))
run_stops may_take walks s r left print.Memory (Err e) out wrote walked stopped is = rw is stopped

-- a text of which a write stopped
pub text_stops : {O : Type 0} (may_take : O → List ℕ → Result ℕ Failed → O → Type 0) (s : Showing) (r left : Report)
    (text refused taken : List ℕ) (fault : PrintFault) (answer : Result (String Global) PrintFault) (out wrote : O)
    → IsPrinted s r text refused left → taken ≡ text → AnswersPrint may_take out taken (Err fault) wrote
    → IsErrAnd answer (λ e. e ≡ fault) → AnswersTable may_take s r left out answer wrote
text_stops may_take s r left text refused taken fault (Ok done) out wrote of same stopped is = absurd is
text_stops may_take s r left text refused taken print.Write (Err e) out wrote of same stopped is =
    rw is (text, refused, of, rw (sym same) stopped)
text_stops may_take s r left text refused taken print.Memory (Err e) out wrote of same stopped is = rw is stopped

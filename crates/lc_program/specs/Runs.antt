-- What a run, which walks a tree and writes its table, answers, by what its walk answers.
use Rattle.std.specs.{Prelude.{◌≡◌, ℕ, List, String, Result, Ok, Err, string_bytes}, Global.Global}
use Rattle.lc_io.specs.{declared.{source.Failed.Failed, printing.PrintFault.PrintFault}, Writes.{Writes, StopsWriting}}
use Rattle.lc_walk.specs.declared.{report.Report.Report, walk_fault.WalkFault.WalkFault}
use Rattle.lc_program.specs.ReportTexts.{IsPrinted, Showing}
use Rattle.lc_program.specs.declared.runs.{Printed.Printed, RunFault.{RunFault, TheVariants.{Walk, Memory, Write}}}
use Rattle.lc_io.specs.declared.printing.PrintFault.TheVariants as print

-- why a table was not written, or not whole
abbrev pub table_fault : PrintFault → RunFault
table_fault print.Write = Write
table_fault print.Memory = Memory

-- what a call answers that writes the table of the part of a report that meets some conditions; `left` is this part. The table was written
-- whole, without the paths that have the answered lines; or a write failed; or an allocation failed, and nothing was written
abbrev pub AnswersTable : {O : Type 0} → (O → List ℕ → Result ℕ Failed → O → Type 0) → Showing → Report → Report → O
    → Result (String Global) PrintFault → O → Type 0
AnswersTable may_take s r left out (Ok refused) wrote =
    (text : List ℕ) × IsPrinted s r text (string_bytes refused) left × Writes may_take out text wrote
AnswersTable may_take s r left out (Err print.Write) wrote =
    (text refused : List ℕ) × IsPrinted s r text refused left × StopsWriting may_take out text wrote
AnswersTable may_take s r left out (Err print.Memory) wrote = wrote ≡ out

module _ {O : Type 0} (may_take : O → List ℕ → Result ℕ Failed → O → Type 0) (walks : Result Report WalkFault → Type 0) (s : Showing)
  where
    abbrev pub AnswersRun : O → Result Printed RunFault → O → Type 0
    -- the table of the report was written whole, and this is left of it
    AnswersRun out (Ok printed) wrote =
        (r : Report) × walks (Ok r) × AnswersTable may_take s r printed.report out (Ok printed.refused) wrote
    -- the walk gave no report, and nothing was written
    AnswersRun out (Err (Walk f)) wrote = walks (Err f) × (wrote ≡ out)
    AnswersRun out (Err Memory) wrote = wrote ≡ out
    -- a prefix of the table was written
    AnswersRun out (Err Write) wrote =
        (r : Report) × walks (Ok r) × ((left : Report) × AnswersTable may_take s r left out (Err print.Write) wrote)

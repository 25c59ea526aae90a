-- The answer to a request: what is known of it once it was written, or why the program stops with an error.
use Rattle.std.specs.Prelude.{◌≡◌, ◌&&◌, ℕ, nat_lt, Bool, false, not, cond, List, [], Result, Ok, Err, flat_map}
use Rattle.lc_glob.specs.Lists.{is_empty}
use Rattle.lc_io.specs.{declared.source.Failed.Failed, Writes.{StopsWriting, Writes}}
use Rattle.lc_paths.specs.declared.check_fault.CheckFault.{CheckFault}
use Rattle.lc_program.specs.Causes.{check_cause}
use Rattle.lc_program.specs.declared.cause.Cause.{Cause, TheVariants.Unwritten}
use Rattle.lc_program.specs.declared.ending.Ending.{Ending, TheVariants.{AnyFile, Done, SomeFaults}}
use Rattle.lc_walk.specs.declared.report.Report.{Report}

-- what is known of an answer that was written: whether something could not be read or printed, whether `--fail-if-any` makes the answer a
-- failure, and what standard error gets
pub record AnswerModel : Type 0 where
  pub has_faults : Bool
  pub fails : Bool
  pub told : List ℕ

abbrev pub Reply : Type 0
Reply = Result AnswerModel Cause

-- how the program ends after an answer
abbrev pub ending_of : AnswerModel → Ending
ending_of a = cond a.fails AnyFile (cond a.has_faults SomeFaults Done)

-- an answer of which there is nothing to tell
abbrev pub clean : AnswerModel
clean = record { has_faults = false; fails = false; told = [] }

-- what is known of a printed report, with these lines about paths that the text lacks, and these for standard error. Something could not be
-- read, or a path is not in the text; and with `--fail-if-any` any file is a failure
abbrev pub printed_answer : Bool → Report → List ℕ → List ℕ → AnswerModel
printed_answer fail_if_any left refused told = record {
  has_faults = not (is_empty left.faults.items && is_empty refused);
  fails = fail_if_any && nat_lt 0 left.totals.files;
  told = told;
}

-- some texts, one after another
abbrev pub joined : List (List ℕ) → List ℕ
joined texts = flat_map (λ text. text) texts

-- the reply to a check. A check that was written whole has no errors
abbrev pub checked : Result (Unit {0}) CheckFault → Reply
checked (Ok _) = Ok clean
checked (Err fault) = Err (check_cause fault)

module _ {O : Type 0} (may_take : O → List ℕ → Result ℕ Failed → O → Type 0) where
  -- a text was written whole, and the reply is this answer; or a write failed
  abbrev pub WritesAnswer : List ℕ → AnswerModel → O → Reply → O → Type 0
  WritesAnswer text a out (Ok answer) wrote = (answer ≡ a) × Writes may_take out text wrote
  WritesAnswer text a out (Err cause) wrote = (cause ≡ Unwritten) × StopsWriting may_take out text wrote

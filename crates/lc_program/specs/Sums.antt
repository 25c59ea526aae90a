-- How a sum is answered, by what was read and written.
use Rattle.std.specs.{Prelude.{◌≡◌, ◌⊎◌, ◌||◌, ℕ, List, [], ◌∷◌, map, Result, Ok, Err, Vec}, Global.Global}
use Rattle.lc_arguments.specs.{Combinations.draws_boxes, Reports.report_model, TableWords.{lists_files, options_in, output_in}}
use Rattle.lc_arguments.specs.declared.sum.SumRequest.{SumRequest}
use Rattle.lc_io.specs.{Reads.Answer, declared.source.Failed.Failed}
use Rattle.lc_program.specs.{Faults.{inside, lines_if}, Headings.{chosen_in_sum, title_of_sum}, ReportFiles.{AnswersParts, Typed}}
use Rattle.lc_program.specs.Replies.{Reply, WritesAnswer, joined, printed_answer}
use Rattle.lc_program.specs.{ReportLines.IsUnsummedFor, ReportTexts.{IsPrinted, Showing, showing}, Styles.end_for, Systems.SystemMay}
use Rattle.lc_program.specs.{WalkRequests.columns_of, declared.cause.Cause.{Cause, TheVariants.Memory}}
use Rattle.lc_sheet.specs.declared.table_options.Format.{Format}
use Rattle.lc_reports.specs.{Needs.needs_of, Sums.IsSummed, declared.{needs.Needs.Needs, part.Part.Part, sum_fault.SumFault.SumFault}}
use Rattle.lc_walk.specs.declared.report.Report.{Report}

-- the REPORTs of the command line
abbrev pub reports_of : SumRequest → List Typed
reports_of c = map report_model c.reports.items

-- the columns and lists that each report must have
abbrev pub needed_by : SumRequest → Needs
needed_by c = needs_of c.table.by c.conditions.items (lists_files c.table || draws_boxes c.table.format) c.left_out

-- the lines that standard error gets about a sum of which this part meets the conditions: what could not be read, and which paths the text
-- lacks. A sum has no directories of its own
abbrev pub sum_lines : Format → SumRequest → Report → List ℕ → List ℕ
sum_lines other c left refused = joined (lines_if (output_in other c.table) (inside [] left.faults.items) ∷ refused ∷ [])

-- how a sum is shown with these columns of attributes and of languages. The format is `other` if the command line names none, and the
-- columns are those that each report has if it names no columns
abbrev pub sums_shown : Format → SumRequest → List (List ℕ) → Report → Showing
sums_shown other c columns s =
    showing (title_of_sum c) (chosen_in_sum columns c) c.conditions.items (options_in other s.columns c.table) columns (end_for c.null)

module _ {O : Type 0} (may_take : O → List ℕ → Result ℕ Failed → O → Type 0) (other : Format) (c : SumRequest)
    (columns : List (List ℕ)) where
  -- the part of a sum that meets the conditions was written, and the rest of the reply is this; or an allocation failed, and nothing was
  -- written
  abbrev pub PrintsSum : Report → O → Reply → O → Type 0
  PrintsSum s out reply wrote =
      ((left : Report) × (refused text : List ℕ) × IsPrinted (sums_shown other c columns s) s text refused left
      × WritesAnswer may_take text (printed_answer c.fail_if_any left refused (sum_lines other c left refused)) out reply wrote)
      ⊎ ((reply ≡ Err Memory) × (wrote ≡ out))

  -- the reports of these parts were added up, and their sum was printed; or they have no sum, and nothing was written
  abbrev pub PrintsParts : List Part → O → Reply → O → Type 0
  PrintsParts parts out reply wrote =
      ((s : Report) × IsSummed (needed_by c) parts (Ok s) × PrintsSum s out reply wrote)
      ⊎ ((fault : SumFault) × (cause : Cause) × IsSummed (needed_by c) parts (Err fault) × IsUnsummedFor fault cause × (reply ≡ Err cause)
      × (wrote ≡ out))

module _ (may : SystemMay) {I O : Type 0} (may_give : I → ℕ → Answer → I → Type 0)
    (may_take : O → List ℕ → Result ℕ Failed → O → Type 0) (other : Format) (c : SumRequest) where
  -- how a sum is answered: the reports were read, and their sum was printed; or a report could not be read, and nothing was written
  abbrev pub AnswersSum : I → O → Reply → I → O → Type 0
  AnswersSum input out reply read wrote =
      ((parts : Vec Part Global) × AnswersParts may_give may.hold may.unread (columns_of c.attributes.items) (reports_of c) input
      (Ok parts) read × PrintsParts may_take other c (columns_of c.attributes.items) parts.items
      out reply wrote)
      ⊎ ((cause : Cause) × AnswersParts may_give may.hold may.unread (columns_of c.attributes.items) (reports_of c) input (Err cause) read
      × (reply ≡ Err cause)
      × (wrote ≡ out))

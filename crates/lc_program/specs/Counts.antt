-- How a count is answered, by what was read and written.
use Rattle.std.specs.Prelude.{◌≡◌, ◌⊎◌, ◌||◌, ℕ, List, [], ◌∷◌, map, Result, Err, unwrap_or}
use Rattle.lc_arguments.specs.{Combinations.draws_boxes, TableWords.{lists_files, options_in, output_in}}
use Rattle.lc_arguments.specs.declared.count.CountRequest.{CountRequest}
use Rattle.lc_io.specs.{Reads.Answer, declared.source.Failed.Failed}
use Rattle.lc_program.specs.{Faults.AreFaultLines, Finds.{FindsFor, FindsNoneFor}, Hints.IsHintFor, Meant.meant_if}
use Rattle.lc_program.specs.Nested.{AreApart, AreNested}
use Rattle.lc_program.specs.{PathLists.emptied_line, Replies.{Reply, WritesAnswer, joined, printed_answer}}
use Rattle.lc_program.specs.{Headings.{HasTitle, chosen_in}, ReportTexts.{IsPrinted, Showing, showing}, Styles.{end_for, format_for}}
use Rattle.lc_program.specs.{Systems.SystemMay, Unmatched.unmatched_of, Unnamed.AreRemarks}
use Rattle.lc_program.specs.WalkRequests.{IsPrepared, IsUnprepared, columns_of, entered_by, named_in}
use Rattle.lc_program.specs.declared.{cause.Cause.{Cause, TheVariants.Memory}, streams.Terminals.Terminals}
use Rattle.lc_sheet.specs.{Conditions.needs_files, Keys.are_of_files, declared.table_options.Format.Format}
use Rattle.lc_walk.specs.{Walks.Walks, declared.{options.{Options.Options, ReportLists.ReportLists}, report.Report.Report}}
use Rattle.lc_walk.specs.declared.walk_fault.WalkFault.{WalkFault}
use Rattle.lc_walk.specs.AllColumns.{all_columns}

-- the names of the directories that a count has as arguments
abbrev pub names_of : CountRequest → List (List ℕ)
names_of c = map (λ directory. directory.now) c.directories.items

-- the lists that the report of a count must have: of skipped entries if requested, and of files also where rows, pictures, trees or
-- conditions need it
abbrev pub lists_of : CountRequest → ReportLists
lists_of c = record {
  files = lists_files c.table || are_of_files (unwrap_or c.table.by all_columns) || draws_boxes c.table.format
      || needs_files c.conditions.items;
  left_out = c.left_out;
}

-- how the report of a count is shown with this title, in this format if the command line names none
abbrev pub counts_shown : Format → CountRequest → List ℕ → Showing
counts_shown other c title =
    showing title (chosen_in (columns_of c.attributes.items) c) c.conditions.items (options_in other all_columns c.table)
    (columns_of c.attributes.items) (end_for c.walk.null)

module _ (may : SystemMay) (c : CountRequest) (o : Options) where
  -- what a walk of the directory with this name may answer, by these options
  abbrev pub MayWalk : List ℕ → Result Report WalkFault → Type 0
  MayWalk directory = Walks (may.list directory (entered_by c.walk)) (may.give directory (entered_by c.walk)) o

  -- why nothing is found in the directories that the command line names
  abbrev pub FindsNoneAsked : Cause → Type 0
  FindsNoneAsked cause = FindsNoneFor MayWalk (names_of c) cause

  -- a text shows what is found in the directories that the command line names, but for the paths that these lines refuse; and `left` is the
  -- part of it that meets the conditions. The format is `other` if the command line names none
  pub record ShowsFound (other : Format) (left : Report) (refused text : List ℕ) : Type 0 where
    pub title : List ℕ
    pub has_title : HasTitle may.stand c title
    pub found : Report
    pub finds : FindsFor MayWalk (columns_of c.attributes.items) (names_of c) found
    pub printed : IsPrinted (counts_shown other c title) found text refused left

module _ (may : SystemMay) (terminals : Terminals) (c : CountRequest) (emptied : List ℕ) (attributes : List (List ℕ)) where
  -- standard error gets these lines about a count of which this is left: what could not be read, which paths the text lacks, the line about
  -- the list of paths and the attributes of these that no file names, what patterns may mean, which can match nothing, and perhaps a hint
  pub record AreCountLines (left : Report) (refused told : List ℕ) : Type 0 where
    pub unread : List ℕ
    pub are_unread : AreFaultLines may.unlist (names_of c) (output_in (format_for terminals.output) c.table) left.faults.items unread
    pub remarks : List ℕ
    pub are_remarks : AreRemarks emptied attributes remarks
    pub hint : List ℕ
    pub is_hint : IsHintFor may.lie terminals.error (names_of c) hint
    pub are : told ≡ joined (unread ∷ refused ∷ remarks
        ∷ meant_if left.totals.files (map (λ pattern. pattern.now) c.walk.filters.include.items) ∷ unmatched_of c.walk.filters ∷ hint ∷ [])

module _ (may : SystemMay) {I O : Type 0} (may_give : I → ℕ → Answer → I → Type 0)
    (may_take : O → List ℕ → Result ℕ Failed → O → Type 0) (terminals : Terminals) (c : CountRequest) where
  -- how a count is answered by these options: what was found was written, and the rest of the reply is this; or nothing was found, or an
  -- allocation failed, and nothing was written
  abbrev pub CountsBy : Options → O → Reply → O → Type 0
  CountsBy o out reply wrote =
      ((left : Report) × (refused text told : List ℕ) × ShowsFound may c o (format_for terminals.output) left refused text
      × AreCountLines may terminals c (emptied_line c.walk.only_from o.filters.now.only) (named_in c.walk c.attributes.items) left refused
      told
      × WritesAnswer may_take text (printed_answer c.fail_if_any left refused told) out reply wrote)
      ⊎ ((cause : Cause) × FindsNoneAsked may c o cause × (reply ≡ Err cause) × (wrote ≡ out))

  -- how a count of directories is answered of which none lies in another: they were counted as the command line requests; or the walks
  -- could not be prepared, and nothing was written
  abbrev pub AnswersApart : I → O → Reply → I → O → Type 0
  AnswersApart input out reply read wrote =
      ((o : Options) × IsPrepared may may_give c.walk c.attributes.items (lists_of c) input o read × CountsBy o out reply wrote)
      ⊎ ((cause : Cause) × IsUnprepared may may_give c.walk input cause read × (reply ≡ Err cause) × (wrote ≡ out))

  -- how a count is answered. Either no directory is the same as another or lies in another, and they are counted; or one is or does, or
  -- an allocation failed, and nothing was read or written
  abbrev pub AnswersCount : I → O → Reply → I → O → Type 0
  AnswersCount input out reply read wrote =
      (AreApart may.stand (names_of c) × AnswersApart input out reply read wrote)
      ⊎ ((cause : Cause) × (AreNested may.stand (names_of c) cause ⊎ (cause ≡ Memory)) × (reply ≡ Err cause) × (read ≡ input)
      × (wrote ≡ out))

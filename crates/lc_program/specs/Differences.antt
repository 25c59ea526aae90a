-- How a comparison is answered, by what was read and written.
use Rattle.std.specs.Prelude.{◌≡◌, ◌⊎◌, ◌||◌, ◌&&◌, ℕ, Bool, true, false, not, List, [], ◌∷◌, Some, None, Result, Ok, Err, unwrap_or}
use Rattle.lc_arguments.specs.{TableWords.{number_of, order_in, output_in}, declared.diff.DiffRequest.DiffRequest}
use Rattle.lc_arguments.specs.declared.table.TableRequest.{TableRequest}
use Rattle.lc_changes.specs.{ChangeSheets.{AreChangesOf, ChangesModel}, KeptChanges.AreKeptParts}
use Rattle.lc_changes.specs.declared.options.ChangeOptions.{ChangeOptions}
use Rattle.lc_formats.specs.Texts.{IsTextIn}
use Rattle.lc_glob.specs.Lists.{is_empty}
use Rattle.lc_io.specs.{Reads.Answer, declared.source.Failed.Failed}
use Rattle.lc_program.specs.{Choices.AcceptsSides, PathLists.emptied_line, SideFaults.lines_of, Sides.GivesSides}
use Rattle.lc_program.specs.{Replies.{AnswerModel, Reply, WritesAnswer, joined}, Systems.SystemMay, Unmatched.unmatched_of}
use Rattle.lc_program.specs.{Unnamed.AreRemarks, WalkRequests.{IsPrepared, IsUnprepared, columns_of, named_in}}
use Rattle.lc_program.specs.declared.{cause.Cause.{Cause, TheVariants.Memory}, sides.Side.{Side, TheVariants.Directory}}
use Rattle.lc_rows.specs.Kept.{IsKept}
use Rattle.lc_sheet.specs.{ChangeKinds.are_all_changes, Sheets.sheet_format, declared.table_options.{Columns.Columns, Format.Format}}
use Rattle.lc_reports.specs.{Needs.needs_of, declared.needs.Needs.Needs}
use Rattle.lc_walk.specs.declared.{options.{Options.Options, ReportLists.ReportLists}, report.Report.Report}

-- ---- what is asked

-- the columns of a comparison's rows: the extension alone if the command line names no columns
abbrev pub compared_columns : TableRequest → Columns
compared_columns s = unwrap_or s.by (record { dir = None; attributes = 0; ext = true; text = false; eol = false })

-- the options of a comparison, with this format if the command line names none. Its rows are in the order of a count's rows
abbrev pub change_options : Format → DiffRequest → ChangeOptions
change_options other d = record {
  format = sheet_format (output_in other d.table);
  by = compared_columns d.table;
  sort = number_of (order_in (output_in other d.table) d.table);
  top = d.table.top;
  files = d.table.files;
  all = d.all;
}

-- the columns and lists that the report of each side must have
abbrev pub compared_needs : DiffRequest → Needs
compared_needs d =
    needs_of (Some (compared_columns d.table)) d.conditions.items (d.table.files || not (are_all_changes d.changes)) false

-- the lists that the report of a side must have that is counted
abbrev pub compared_lists : DiffRequest → ReportLists
compared_lists d = record { files = (compared_needs d).files; left_out = false }

-- ---- what is printed

-- what is left of two reports: of each, the files that meet the conditions, and of these the files whose change is asked for
abbrev pub KeepsAsked : DiffRequest → Report → Report → Report → Report → Type 0
KeepsAsked d old new kept_old kept_new =
    (a b : Report) × IsKept d.conditions.items old a × IsKept d.conditions.items new b
    × AreKeptParts d.changes (compared_columns d.table).attributes a b kept_old kept_new

-- a text is that of the changes from one report to another, and `differ` is whether there are changes
pub record IsChangesText (options : ChangeOptions) (attributes : List (List ℕ)) (old new : Report) (text : List ℕ)
    (differ : Bool) : Type 0 where
  pub changes : ChangesModel
  pub are_changes : AreChangesOf options attributes old new changes
  pub is_text : IsTextIn options.format changes.sheet text
  pub is_differ : differ ≡ changes.some_differ

module _ (d : DiffRequest) (emptied : List ℕ) (attributes : List (List ℕ)) (old new : Report) where
  -- standard error gets these lines about a comparison of two reports: what could not be read on each side, the line about the list of
  -- paths and the attributes of these that no file names, and which patterns can match nothing
  abbrev pub AreDiffLines : List ℕ → Type 0
  AreDiffLines told =
      (remarks : List ℕ) × AreRemarks emptied attributes remarks
      × (told ≡ joined (lines_of d.old.now old.faults.items d.new.now new.faults.items ∷ remarks ∷ unmatched_of d.walk.filters ∷ []))

-- what is known of a comparison of two reports, by whether they differ, and with these lines for standard error
abbrev pub diff_answer : DiffRequest → Report → Report → Bool → List ℕ → AnswerModel
diff_answer d old new differ told = record {
  has_faults = not (is_empty old.faults.items && is_empty new.faults.items);
  fails = d.fail_if_any && differ;
  told = told;
}

module _ {O : Type 0} (may_take : O → List ℕ → Result ℕ Failed → O → Type 0) (other : Format) (d : DiffRequest) (emptied : List ℕ)
    (attributes : List (List ℕ)) where
  -- how the changes between what two reports have that meets the conditions are printed: they were written, and the rest of the reply is
  -- this; or an allocation failed, and nothing was written
  abbrev pub PrintsChanges : Report → Report → O → Reply → O → Type 0
  PrintsChanges old new out reply wrote =
      ((kept_old kept_new : Report) × (text told : List ℕ) × (differ : Bool) × KeepsAsked d old new kept_old kept_new
      × IsChangesText (change_options other d) (columns_of d.attributes.items) kept_old kept_new text differ
      × AreDiffLines d emptied attributes kept_old kept_new told
      × WritesAnswer may_take text (diff_answer d kept_old kept_new differ told) out reply wrote)
      ⊎ ((reply ≡ Err Memory) × (wrote ≡ out))

  -- the changes between both sides are printed; or a side has no report, and nothing was written
  abbrev pub PrintsSides : Result (Report × Report) Cause → O → Reply → O → Type 0
  PrintsSides (Ok both) out reply wrote = PrintsChanges both.0 both.1 out reply wrote
  PrintsSides (Err cause) out reply wrote = (reply ≡ Err cause) × (wrote ≡ out)

-- the attributes of these that standard error may get lines about: none if neither side is a directory
abbrev pub names_for : Side × Side → List (List ℕ) → List (List ℕ)
names_for (Directory, other) names = names
names_for (other, Directory) names = names
names_for sides names = []

module _ (may : SystemMay) {I O : Type 0} (may_give : I → ℕ → Answer → I → Type 0)
    (may_take : O → List ℕ → Result ℕ Failed → O → Type 0) (other : Format) (d : DiffRequest) where
  -- by these options of walks, both sides, which are these, were counted or read, and their changes were printed
  abbrev pub ComparesSides : Side × Side → Options → I → O → Reply → I → O → Type 0
  ComparesSides sides o input out reply read wrote =
      (reports : Result (Report × Report) Cause) × GivesSides may may_give d.walk o (columns_of d.attributes.items) (compared_needs d)
      sides d.old.now d.new.now input reports read
      × PrintsSides may_take other d (emptied_line d.walk.only_from o.filters.now.only)
      (names_for sides (named_in d.walk d.attributes.items)) reports out reply wrote

  -- how a comparison of these sides is answered: they were compared as the command line requests; or the walks could not be prepared, and
  -- nothing was written
  abbrev pub AnswersSides : Side × Side → I → O → Reply → I → O → Type 0
  AnswersSides sides input out reply read wrote =
      ((o : Options) × (between : I) × IsPrepared may may_give d.walk d.attributes.items (compared_lists d) input o between
      × ComparesSides sides o between out reply read wrote)
      ⊎ ((cause : Cause) × IsUnprepared may may_give d.walk input cause read × (reply ≡ Err cause) × (wrote ≡ out))

  -- how a comparison is answered: both sides are compared; or nothing has the name of either, or an option chooses files but neither is a
  -- directory, or an allocation fails, and nothing was read or written
  abbrev pub AnswersDiff : I → O → Reply → I → O → Type 0
  AnswersDiff input out reply read wrote =
      ((sides : Side × Side) × AcceptsSides may.unlist d (Ok sides) × AnswersSides sides input out reply read wrote)
      ⊎ ((cause : Cause) × AcceptsSides may.unlist d (Err cause) × (reply ≡ Err cause) × (read ≡ input) × (wrote ≡ out))

-- What a comparison of two reports shows.
use Rattle.std.specs.{Prelude.{◌≡◌, ℕ, true, false, Bool, ◌||◌, if◌then◌else◌, List, [], ◌∷◌, codes, Option, Some, None}, List.list_any}
use Rattle.lc_changes.specs.{ChangeColumns.{changed_columns, changed_sums_columns, file_change_columns}}
use Rattle.lc_changes.specs.{declared.{changed_row.ChangedRow.ChangedRow, kinds.sums.ChangedSums.ChangedSums}}
use Rattle.lc_changes.specs.{declared.options.ChangeOptions.ChangeOptions, ChangeValues.{changed_sums_value, changed_value}}
use Rattle.lc_changes.specs.{ChangeValues.file_change_value, Changes.{AreChangesSorted, AreCompared, differs, kept_rows, new_sums_of}}
use Rattle.lc_changes.specs.{Changes.old_sums_of, FileChanges.{FileChangeModel, AreFileChangesSorted, AreFilesChanged, is_changed}}
use Rattle.lc_rows.specs.{SheetColumns.first_key, Sheets.{section_of, with_attributes}, ShownRows.parts_of, Views.{first_of, rest_of}}
use Rattle.lc_sheet.specs.{Formats.keeps_columns, Keys.are_of_files, Sheets.{SectionModel, SheetModel}, declared.column.Column.Column}
use Rattle.lc_sheet.specs.{declared.{form.Form.Form, table_options.{Columns.Columns, Format.Format}}}
use Rattle.lc_walk.specs.{declared.{options.ReportLists.ReportLists, report.Report.Report, tally.sums.Sums.Sums}}

-- the form of lines: the columns that rows are grouped by, and the column of the names of sums
abbrev pub form_by : Format → Columns → Form
form_by format by = record { by = by; first = first_key (keeps_columns format) by; shares = None }

-- ---- sums

abbrev pub sums_line : List ℕ → Sums → Sums → ChangedSums
sums_line name old new = record { new_sums = record { name = name; sums = new }; old_sums = old }

-- the line of the sums over the rows that are cut off, if there are any
abbrev pub other_sums : List ChangedRow → List ChangedSums
other_sums [] = []
other_sums (r ∷ rows) = sums_line (codes "others") (old_sums_of (r ∷ rows)) (new_sums_of (r ∷ rows)) ∷ []

abbrev pub total_sums : Sums → Sums → List ChangedSums
total_sums old new = sums_line (codes "total") old new ∷ []

-- ---- the comparison

-- what is shown of a comparison: the format and the form; the columns of attributes, of rows and of files; the rows; the sums; the files,
-- if they are listed
pub record ShownChangesModel : Type 0 where
  pub format : Format
  pub form : Form
  pub attributes : List (List ℕ)
  pub columns : List Column
  pub file_columns : List Column
  pub rows : List ChangedRow
  pub others : List ChangedSums
  pub total : List ChangedSums
  pub lists_files : Bool
  pub files : List FileChangeModel

abbrev pub files_section : ShownChangesModel → Option SectionModel
files_section m =
    if m.lists_files then Some (with_attributes m.attributes (section_of (file_change_value m.form) m.file_columns m.files)) else None

abbrev pub comparison_with : ShownChangesModel → SheetModel
comparison_with m = record {
  rows = with_attributes m.attributes (section_of (changed_value m.form) m.columns m.rows);
  others = section_of (changed_sums_value m.form) (changed_sums_columns m.format m.columns) m.others;
  totals = section_of (changed_sums_value m.form) (changed_sums_columns m.format m.columns) m.total;
  compares = true;
  some_binary = false;
  directories = None;
  entries = None;
  files = files_section m;
  skipped = None;
  faults = None;
}

-- the comparison that shows the first of these sorted rows and files, the sums over the other rows, and this total
abbrev pub comparison_of : ChangeOptions → List (List ℕ) → List ChangedSums → List ChangedRow → List FileChangeModel → SheetModel
comparison_of options attributes total rows files = comparison_with (record {
  format = options.format;
  form = form_by options.format options.by;
  attributes = attributes;
  columns = changed_columns options.format options.sort options.by;
  file_columns = file_change_columns options.format options.by;
  rows = first_of options.top rows;
  others = other_sums (rest_of options.top rows);
  total = total;
  lists_files = options.files;
  files = first_of options.top files;
})

-- a comparison, and whether the reports differ in a row or in a listed file, whether the row or file is shown or not
pub record ChangesModel : Type 0 where
  pub sheet : SheetModel
  pub some_differ : Bool

-- whether a row or a file differs; the first n attributes of files are compared
abbrev pub some_differ : ℕ → List ChangedRow → List FileChangeModel → Bool
some_differ n rows files = list_any differs rows || list_any (is_changed n) files

-- the comparison of two reports with these options, and these names of attributes
pub record AreChangesOf (options : ChangeOptions) (attributes : List (List ℕ)) (old new : Report) (c : ChangesModel) : Type 0 where
  pub rows : List ChangedRow
  pub are_rows : AreCompared (parts_of options.by old.rows.items old.files.items) (parts_of options.by new.rows.items new.files.items) rows
  pub shown : List ChangedRow
  pub are_shown : AreChangesSorted options.sort (kept_rows options.all rows) shown
  pub files : List FileChangeModel
  pub are_files : AreFilesChanged options.files options.by.attributes old.files.items new.files.items files
  pub listed : List FileChangeModel
  pub are_listed : AreFileChangesSorted options.sort files listed
  pub is_sheet : c.sheet ≡ comparison_of options attributes (total_sums old.totals new.totals) shown listed
  pub is_differ : c.some_differ ≡ some_differ options.by.attributes rows files

-- whether a comparison needs the files of both reports: rows by directories or attributes, and the list of files, are made of the files
abbrev pub needs_files : ChangeOptions → Bool
needs_files options = options.files || are_of_files options.by

abbrev pub HasFilesFor : ChangeOptions → ReportLists → Type 0
HasFilesFor options lists = needs_files options ≡ true → lists.files ≡ true

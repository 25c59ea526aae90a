-- The sheet of a report.
use Rattle.std.specs.Prelude.{◌≡◌, ℕ, max, Bool, false, if◌then◌else◌, List, [], ◌∷◌, codes, unwrap_or, nat_lt, Option, Some, None}
use Rattle.lc_sheet.specs.{Formats.keeps_columns, Sheets.{SectionModel, SheetModel, lines_of, sheet_format}, Values.ValueModel}
use Rattle.lc_sheet.specs.declared.{column.{Column.Column, Number.{Number, TheVariants.Lines}}, form.{Form.Form, Shares.Shares}}
use Rattle.lc_sheet.specs.declared.table_options.{Format.Format, TableOptions.TableOptions}
use Rattle.lc_walk.specs.declared.{report.Report.Report, tally.{classes.ClassSums.ClassSums, sums.Sums.Sums}}
use Rattle.lc_rows.specs.{Kinds.{NamedSumsModel, fault_value, file_value, row_value, skipped_value, sums_value}}
use Rattle.lc_rows.specs.{RowKeys.ShownRowModel, SheetColumns.{fault_columns, file_columns, first_key, row_columns}}
use Rattle.lc_rows.specs.{SheetColumns.{skipped_columns, sums_columns}, ShownFiles.AreFilesSorted, ShownRows.{AreShown, number_in}}
use Rattle.lc_rows.specs.{Views.{ViewModel, view_of}}
use Rattle.lc_level.specs.Level.{FileLineModel}

-- ---- the form of lines

-- the largest number of a row, 0 without rows
abbrev pub largest : Number → List ShownRowModel → ℕ
largest n [] = 0
largest n (r ∷ rs) = max (number_in n r.sums) (largest n rs)

-- the number of which rows show shares: the number that the table is sorted by, or lines
abbrev pub share_number : Option Number → Number
share_number sort = unwrap_or sort Lines

abbrev pub shares_of : Number → Sums → List ShownRowModel → Shares
shares_of n totals rs = record { number = n; total = number_in n totals; largest = largest n rs }

abbrev pub form_of : TableOptions → Sums → List ShownRowModel → Form
form_of options totals rs = record {
  by = options.by;
  first = first_key (keeps_columns (sheet_format options.output)) options.by;
  shares = if options.share then Some (shares_of (share_number options.sort) totals rs) else None;
}

-- ---- the lines of sums

-- the line of the sums over the rows that are cut off, if there are any
abbrev pub others_lines : Option Sums → List NamedSumsModel
others_lines None = []
others_lines (Some s) = record { name = codes "others"; sums = s } ∷ []

-- the lines of the sums over all files, over text files, and over binary files
abbrev pub totals_lines : Sums → ClassSums → List NamedSumsModel
totals_lines totals classes =
    record { name = codes "total"; sums = totals } ∷ record { name = codes "text"; sums = classes.text }
    ∷ record { name = codes "binary"; sums = classes.binary } ∷ []

-- ---- the sheet

-- what is shown of a report: the format and the form; the columns of attributes, of rows and of files; the rows; the sums, and whether a
-- file is binary;
-- the files, if they are listed
pub record ShownModel : Type 0 where
  pub format : Format
  pub form : Form
  pub attributes : List (List ℕ)
  pub columns : List Column
  pub file_columns : List Column
  pub rows : List ShownRowModel
  pub others : List NamedSumsModel
  pub totals : List NamedSumsModel
  pub some_binary : Bool
  pub lists_files : Bool
  pub files : List FileLineModel

abbrev pub section_of : {X : Type 0} → (X → Column → ValueModel) → List Column → List X → SectionModel
section_of value columns lines = record { tag = None; attributes = []; columns = columns; lines = lines_of value columns lines }

-- a section whose lines are named by a word
abbrev pub list_of : List ℕ → SectionModel → SectionModel
list_of word s = record s { tag = Some word }

-- a section with the columns of the attributes that were asked for
abbrev pub with_attributes : List (List ℕ) → SectionModel → SectionModel
with_attributes attributes s = record s { attributes = attributes }

abbrev pub files_section : ShownModel → Option SectionModel
files_section m =
    if m.lists_files
    then Some (list_of (codes "file") (with_attributes m.attributes (section_of (file_value m.form) m.file_columns m.files))) else None

abbrev pub sheet_with : ShownModel → Report → SheetModel
sheet_with m r = record {
  rows = with_attributes m.attributes (section_of (row_value m.form) m.columns m.rows);
  others = section_of (sums_value m.form) (sums_columns m.format m.columns) m.others;
  totals = section_of (sums_value m.form) (sums_columns m.format m.columns) m.totals;
  compares = false;
  some_binary = m.some_binary;
  directories = Some r.directories;
  entries = if r.lists.left_out then Some r.entries else None;
  files = files_section m;
  skipped = if r.lists.left_out
      then Some (list_of (codes "left") (section_of (skipped_value m.form) (skipped_columns m.format) r.skipped.items)) else None;
  faults = Some (list_of (codes "fault") (section_of (fault_value m.form) fault_columns r.faults.items));
}

abbrev pub shown_of : TableOptions → List (List ℕ) → Report → ViewModel → ShownModel
shown_of options attributes r v = record {
  format = sheet_format options.output;
  form = form_of options r.totals v.rows;
  attributes = attributes;
  columns = row_columns options;
  file_columns = file_columns (sheet_format options.output) options.by;
  rows = v.rows;
  others = others_lines v.others;
  totals = totals_lines r.totals r.classes;
  some_binary = nat_lt 0 r.classes.binary.files;
  lists_files = options.files;
  files = v.files;
}

-- the sheet of a report with these options, these columns of attributes, and this view of its rows and files
abbrev pub sheet_of : TableOptions → List (List ℕ) → Report → ViewModel → SheetModel
sheet_of options attributes r v = sheet_with (shown_of options attributes r v) r

-- the files that a sheet lists: none if files are not requested
abbrev pub listed_files : Bool → List FileLineModel → List FileLineModel
listed_files listed files = if listed then files else []

-- a sheet of a report with these options and columns: it shows the first of these files, and the first of the rows, summed and sorted
pub record HasFiles (options : TableOptions) (attributes : List (List ℕ)) (r : Report) (files : List FileLineModel)
    (s : SheetModel) : Type 0 where
  pub rows : List ShownRowModel
  pub are_rows : AreShown options.by options.sort r.rows.items files rows
  pub is : s ≡ sheet_of options attributes r (view_of options.top rows (listed_files options.files files))

-- a sheet of a report with these options and these columns of attributes
pub record IsSheetOf (options : TableOptions) (attributes : List (List ℕ)) (r : Report) (s : SheetModel) : Type 0 where
  pub files : List FileLineModel
  pub are_files : AreFilesSorted options.sort r.files.items files
  pub has : HasFiles options attributes r files s

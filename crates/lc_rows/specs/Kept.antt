-- The part of a report that meets conditions.
use Rattle.std.specs.{Prelude.{◌≡◌, Bool, if◌then◌else◌, List, [], ◌∷◌, map, filter, None}, Bool.MatchBool, List.list_all}
use Rattle.lc_sheet.specs.{Conditions.{ConditionModel, meets, needs_files}, Values.ValueModel}
use Rattle.lc_sheet.specs.declared.{column.Column.Column, form.Form.Form, key.Key.TheVariants.Ext}
use Rattle.lc_level.specs.Level.{FileLineModel}
use Rattle.lc_walk.specs.{ReportTotals.counted_line, Tally.{IsTally, sums_of_files}, TallyRows.{TallyRowModel, sums_of_rows}}
use Rattle.lc_walk.specs.declared.{report.Report.Report, tally.sums.Sums.Sums}
use Rattle.lc_rows.specs.{Kinds.{file_value, row_value}, ShownRows.part_of_row}
use Rattle.lc_walk.specs.{Classes.classes_of, AllColumns.all_columns}

-- the form in which a line has a value in each column of a report's rows
abbrev pub whole_form : Form
whole_form = record { by = all_columns; first = Ext; shares = None }

-- the value of a file in a column; the value that the files of a row have in common is below
abbrev pub value_of_file : FileLineModel → Column → ValueModel
value_of_file f column = file_value whole_form f column

abbrev pub value_of_row : TallyRowModel → Column → ValueModel
value_of_row r column = row_value whole_form (part_of_row all_columns r) column

-- all conditions hold of a line with these values
abbrev pub holds_all : (Column → ValueModel) → List ConditionModel → Bool
holds_all value cs = list_all (λ (c : ConditionModel). meets c.test (value c.column)) cs

abbrev pub file_meets : List ConditionModel → FileLineModel → Bool
file_meets cs f = holds_all (value_of_file f) cs

abbrev pub row_meets : List ConditionModel → TallyRowModel → Bool
row_meets cs r = holds_all (value_of_row r) cs

-- the rows that meet the conditions; if a condition is on what files alone have, the rows of the files that meet the conditions
abbrev pub AreKeptRows : Bool → List ConditionModel → Report → List FileLineModel → List TallyRowModel → Type 0
AreKeptRows by_file cs r files rows =
    MatchBool by_file (IsTally (map counted_line files) rows) (rows ≡ filter (row_meets cs) r.rows.items)

abbrev pub kept_totals : Bool → List FileLineModel → List TallyRowModel → Sums
kept_totals by_file files rows = if by_file then sums_of_files (map counted_line files) else sums_of_rows rows

-- the part of a report that meets some conditions: its files, rows, totals and sums by class; all else stays as in the report
pub record IsPart (cs : List ConditionModel) (r part : Report) : Type 0 where
  pub files : part.files.items ≡ filter (file_meets cs) r.files.items
  pub rows : AreKeptRows (needs_files cs) cs r part.files.items part.rows.items
  pub columns : part.columns ≡ r.columns
  pub totals : part.totals ≡ kept_totals (needs_files cs) part.files.items part.rows.items
  pub classes : part.classes ≡ classes_of part.rows.items
  pub directories : part.directories ≡ r.directories
  pub entries : part.entries ≡ r.entries
  pub lists : part.lists ≡ r.lists
  pub faults : part.faults ≡ r.faults
  pub skipped : part.skipped ≡ r.skipped

-- the part of a report that has only these files: its rows, totals and sums by class are those of the files, and all else stays
pub record IsPartWith (fs : List FileLineModel) (r part : Report) : Type 0 where
  pub files : part.files.items ≡ fs
  pub rows : IsTally (map counted_line fs) part.rows.items
  pub columns : part.columns ≡ r.columns
  pub totals : part.totals ≡ sums_of_files (map counted_line fs)
  pub classes : part.classes ≡ classes_of part.rows.items
  pub directories : part.directories ≡ r.directories
  pub entries : part.entries ≡ r.entries
  pub lists : part.lists ≡ r.lists
  pub faults : part.faults ≡ r.faults
  pub skipped : part.skipped ≡ r.skipped

-- the part of a report that meets some conditions; without conditions, the whole report
abbrev pub IsKept : List ConditionModel → Report → Report → Type 0
IsKept [] r part = part ≡ r
IsKept (c ∷ cs) r part = IsPart (c ∷ cs) r part

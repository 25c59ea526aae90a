-- What is true of comparisons.
use Rattle.std.specs.{Prelude.{◌≡◌, ℕ, false, List, [], map, Option}, Option.MatchOption}
use Rattle.lc_changes.specs.{ChangeSheets.{AreChangesOf, ChangesModel}, ChangeValues.{changed_sums_value, changed_value, file_change_value}}
use Rattle.lc_changes.specs.{Changes.{AreCompared, new_sums_of, old_sums_of}, declared.changed_row.ChangedRow.ChangedRow}
use Rattle.lc_changes.specs.{declared.{kinds.sums.ChangedSums.ChangedSums, options.ChangeOptions.ChangeOptions}}
use Rattle.lc_changes.specs.{FileChanges.{FileChangeModel, AreFilesCompared, file_path}}
use Rattle.lc_level.specs.Level.{FileLineModel}
use Rattle.lc_rows.specs.{RowKeys.{ShownRowModel, sums_of_shown}, ShownRows.{AreShown, parts_of}}
use Rattle.lc_sheet.specs.{Conditions.number_of, Sheets.SectionModel, Values.{ValueModel, difference, growth}}
use Rattle.lc_sheet.specs.{declared.{column.{Column.Column, Number.Number}, form.Form.Form, table_options.Columns.Columns}}
use Rattle.lc_tree.specs.ByteOrder.{AreApart}
use Rattle.lc_walk.specs.declared.report.Report.{Report}
use Rattle.lc_sheet.specs.declared.column.Column.TheVariants as column
use Rattle.lc_sheet.specs.declared.column.Compared.TheVariants as compared

-- ---- a report and itself

abbrev pub has_no_line : Option SectionModel → Type 0
has_no_line section = MatchOption section (Unit {0}) (λ s. s.lines ≡ [])

-- no row and no file differs: the comparison shows no file, and it shows rows only with `--all`
pub record HasNoChange (options : ChangeOptions) (c : ChangesModel) : Type 0 where
  pub differ : c.some_differ ≡ false
  pub rows : options.all ≡ false → c.sheet.rows.lines ≡ []
  pub others : options.all ≡ false → c.sheet.others.lines ≡ []
  pub files : has_no_line c.sheet.files

-- a report in which no path is twice does not differ from itself
abbrev pub SelfLaw : Type 0
SelfLaw =
    (options : ChangeOptions) (attributes : List (List ℕ)) (r : Report) (c : ChangesModel) → AreApart (map file_path r.files.items)
    → AreChangesOf options attributes r r c → HasNoChange options c

-- ---- rows, and those of tables

-- the rows compare two tables, and add up to the same sums as the tables
pub record HasRowsOf (olds news : List ShownRowModel) (rows : List ChangedRow) : Type 0 where
  pub compared : AreCompared olds news rows
  pub old_total : old_sums_of rows ≡ sums_of_shown olds
  pub new_total : new_sums_of rows ≡ sums_of_shown news

abbrev pub TablesLaw : Type 0
TablesLaw =
    (by : Columns) (sort : Option Number) (old new : Report) (olds news : List ShownRowModel) (rows : List ChangedRow)
    → AreShown by sort old.rows.items old.files.items olds → AreShown by sort new.rows.items new.files.items news
    → AreCompared (parts_of by old.rows.items old.files.items) (parts_of by new.rows.items new.files.items) rows
    → HasRowsOf olds news rows

-- ---- one comparison

-- the parts that the rows of both reports add up determine the rows of their comparison
abbrev pub RowsOnceLaw : Type 0
RowsOnceLaw =
    (olds news : List ShownRowModel) (rows others : List ChangedRow) → AreCompared olds news rows → AreCompared olds news others
    → rows ≡ others

-- the files of two reports determine the files of their comparison, if neither report has a path twice
abbrev pub FilesOnceLaw : Type 0
FilesOnceLaw =
    (olds news : List FileLineModel) (files others : List FileChangeModel) → AreApart (map file_path olds) → AreApart (map file_path news)
    → AreFilesCompared olds news files → AreFilesCompared olds news others → files ≡ others

pub record OneComparisonLaw : Type 0 where
  pub rows : RowsOnceLaw
  pub files : FilesOnceLaw

-- ---- changes

-- the change of a number, also in per cent, is from the number in the column of the old report to the number in the column of the new
-- report; a missing number counts as 0
pub record IsFromOldToNew (value : Column → ValueModel) : Type 0 where
  pub change : (n : Number) → value (column.Difference n)
      ≡ difference (number_of (value (column.Old (compared.Number n)))) (number_of (value (column.New (compared.Number n))))
  pub percent : (n : Number) → value (column.Growth n)
      ≡ growth (number_of (value (column.Old (compared.Number n)))) (number_of (value (column.New (compared.Number n))))

-- changes are from old numbers to new numbers in each line of rows, of sums and of files
pub record DifferencesLaw : Type 0 where
  pub rows : (form : Form) (r : ChangedRow) → IsFromOldToNew (changed_value form r)
  pub sums : (form : Form) (s : ChangedSums) → IsFromOldToNew (changed_sums_value form s)
  pub files : (form : Form) (c : FileChangeModel) → IsFromOldToNew (file_change_value form c)

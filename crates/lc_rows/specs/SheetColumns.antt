-- The columns that each section of a sheet has in each format.
use Rattle.std.specs.Prelude.{Bool, true, false, if◌then◌else◌, nat_lt, List, [], ◌∷◌, ◌++◌, map, flat_map, is_some, unwrap_or}
use Rattle.std.specs.List.{find, range_with_len}
use Rattle.lc_sheet.specs.{Formats.{has_records, keeps_columns, share_columns}, Keys.{has_key, report_keys}, Sheets.sheet_format}
use Rattle.lc_sheet.specs.declared.{column.Column.Column, column.Number.TheVariants.{Files, Lines, Blank, Bytes}}
use Rattle.lc_sheet.specs.declared.key.Key.{Key, TheVariants.{Dir, Attribute, Ext, Text, Eol}}
use Rattle.lc_sheet.specs.declared.table_options.{Columns.Columns, Format.Format}
use Rattle.lc_sheet.specs.declared.table_options.TableOptions.{TableOptions}
use Rattle.lc_sheet.specs.declared.column.Column.TheVariants as column

abbrev pub column_if : Bool → Column → List Column
column_if kept c = if kept then c ∷ [] else []

-- whether rows have the column of a key of a report's rows: if they are grouped by it, and in some formats also if they are summed over it
abbrev pub shows_key : Bool → Columns → Key → Bool
shows_key all by key = if all then true else has_key by key

-- the columns of the attributes that rows are grouped by
abbrev pub attribute_columns : Columns → List Column
attribute_columns by = map (λ place. column.Key (Attribute place)) (range_with_len 0 by.attributes)

-- the columns of the rows' keys
abbrev pub key_columns : Bool → Columns → List Column
key_columns all by = column_if (is_some by.dir) (column.Key Dir) ++ (attribute_columns by
    ++ flat_map (λ key. column_if (shows_key all by key) (column.Key key)) report_keys)

-- the first of these keys
abbrev pub first_key : Bool → Columns → Key
first_key all by =
    if is_some by.dir then Dir
    else if nat_lt 0 by.attributes then Attribute 0
    else unwrap_or (find (shows_key all by) report_keys) Eol

-- the columns of numbers in rows and sums
abbrev pub number_columns : List Column
number_columns = column.Number Files ∷ column.Number Lines ∷ column.Number Blank ∷ column.Number Bytes ∷ []

abbrev pub row_columns : TableOptions → List Column
row_columns options =
    key_columns (keeps_columns (sheet_format options.output)) options.by ++ number_columns
    ++ (if options.share then share_columns (sheet_format options.output) else [])

-- the columns of sums in a table whose rows have these columns: only numbers in the formats in which sums have no line among the rows
abbrev pub sums_columns : Format → List Column → List Column
sums_columns format rows = if has_records format then number_columns else rows

-- the columns of files in lists, and in records; records have the directory and the attributes that rows are grouped by
abbrev pub listed_columns : List Column
listed_columns =
    column.Key Text ∷ column.Key Eol ∷ column.Number Lines ∷ column.Number Blank ∷ column.Number Bytes ∷ column.Path ∷ []

abbrev pub recorded_columns : Columns → List Column
recorded_columns by = column.Path ∷ (column_if (is_some by.dir) (column.Key Dir) ++ (attribute_columns by
    ++ column.Key Ext ∷ column.Key Text ∷ column.Key Eol ∷ column.Number Lines ∷ column.Number Blank ∷ column.Number Bytes ∷ []))

abbrev pub file_columns : Format → Columns → List Column
file_columns format by = if has_records format then recorded_columns by else listed_columns

-- the columns of skipped entries in lists, and in records
abbrev pub listed_skipped : List Column
listed_skipped = column.Reason ∷ column.Place ∷ column.Entry ∷ []

abbrev pub recorded_skipped : List Column
recorded_skipped = column.Path ∷ column.Kind ∷ column.Reason ∷ column.File ∷ column.Line ∷ column.Attribute ∷ []

abbrev pub skipped_columns : Format → List Column
skipped_columns format = if has_records format then recorded_skipped else listed_skipped

abbrev pub fault_columns : List Column
fault_columns = column.Fault ∷ column.Site ∷ []

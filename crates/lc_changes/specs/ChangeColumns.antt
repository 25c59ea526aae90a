-- The columns that each section of a comparison has in each format.
use Rattle.std.specs.{Prelude.{ℕ, ◌==◌, Bool, if◌then◌else◌, List, [], ◌∷◌, ◌++◌, map, flat_map, Option, is_some, unwrap_or}}
use Rattle.std.specs.List.{range_with_len}
use Rattle.lc_rows.specs.{SheetColumns.{column_if, key_columns}}
use Rattle.lc_sheet.specs.{Formats.{has_records, keeps_columns}}
use Rattle.lc_sheet.specs.{declared.column.{Column.Column, Compared.Compared, Number.{Number, TheVariants.{Files, Lines, Blank, Bytes}}}}
use Rattle.lc_sheet.specs.{declared.key.Key.TheVariants.{Dir, Attribute, Ext, Text, Eol}}
use Rattle.lc_sheet.specs.{declared.table_options.{Columns.Columns, Format.{Format, TheVariants.{Tsv, Json, Csv}}}}
use Rattle.lc_sheet.specs.declared.column.Column.TheVariants as column
use Rattle.lc_sheet.specs.declared.column.Compared.TheVariants as compared

-- a number for each number of rows, another for each
abbrev pub number_place : Number → ℕ
number_place Files = 0
number_place Lines = 1
number_place Blank = 2
number_place Bytes = 3

abbrev pub are_one_number : Number → Number → Bool
are_one_number a b = number_place a == number_place b

-- a number of the new report, its change, and for one number its change in per cent
abbrev pub with_change : Number → Number → List Column
with_change percent n = column.New (compared.Number n) ∷ column.Difference n ∷ column_if (are_one_number n percent) (column.Growth n)

abbrev pub with_changes : Number → List Column
with_changes percent = with_change percent Files ++ (with_change percent Lines ++ (with_change percent Blank ++ with_change percent Bytes))

-- the number whose change is also shown in per cent: the one that rows are sorted by, or else lines
abbrev pub percent_number : Option Number → Number
percent_number sort = unwrap_or sort Lines

-- the numbers of rows and sums, and the values of a file but those of attributes
abbrev pub compared_numbers : List Compared
compared_numbers = compared.Number Files ∷ compared.Number Lines ∷ compared.Number Blank ∷ compared.Number Bytes ∷ []

abbrev pub compared_values : List Compared
compared_values =
    compared.Key Text ∷ compared.Key Eol ∷ compared.Number Lines ∷ compared.Number Blank ∷ compared.Number Bytes ∷ []

-- a compared value in the old report, and then in the new report
abbrev pub in_turn : Compared → List Column
in_turn value = column.Old value ∷ column.New value ∷ []

-- all of these values in the old report, and then all in the new report
abbrev pub by_report : List Compared → List Column
by_report values = map column.Old values ++ map column.New values

abbrev pub changed_numbers : Format → Option Number → List Column
changed_numbers Tsv sort = flat_map in_turn compared_numbers
changed_numbers Csv sort = flat_map in_turn compared_numbers
changed_numbers Json sort = by_report compared_numbers
changed_numbers other sort = with_changes (percent_number sort)

-- the columns of rows: their keys, and then the numbers
abbrev pub changed_columns : Format → Option Number → Columns → List Column
changed_columns format sort by = key_columns (keeps_columns format) by ++ changed_numbers format sort

-- the columns of sums in a comparison whose rows have these columns
abbrev pub changed_sums_columns : Format → List Column → List Column
changed_sums_columns format rows = if has_records format then by_report compared_numbers else rows

-- the first n attributes, which are compared
abbrev pub compared_attributes : ℕ → List Compared
compared_attributes n = map (λ place. compared.Key (Attribute place)) (range_with_len 0 n)

-- the values of files in records: the first n attributes, and the other values
abbrev pub recorded_values : ℕ → List Compared
recorded_values n = compared_attributes n ++ compared_values

-- the columns of files
abbrev pub file_change_columns : Format → Columns → List Column
file_change_columns Tsv by = column.Change ∷ (flat_map in_turn compared_values ++ column.Path ∷ [])
file_change_columns Json by =
    column.Path ∷ (column_if (is_some by.dir) (column.Key Dir)
    ++ column.Key Ext ∷ column.Change ∷ by_report (recorded_values by.attributes))
file_change_columns Csv by =
    column.Path ∷ column.Change ∷ (column_if (is_some by.dir) (column.Key Dir)
    ++ column.Key Ext ∷ flat_map in_turn (recorded_values by.attributes))
file_change_columns other by =
    column.Change ∷ column.New (compared.Number Lines) ∷ column.Difference Lines
    ∷ column.New (compared.Number Bytes) ∷ column.Difference Bytes ∷ column.Path ∷ []

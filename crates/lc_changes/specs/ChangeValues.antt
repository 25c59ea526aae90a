-- The lines of a comparison: the values that rows, sums and files have in each column.
use Rattle.std.specs.Prelude.{ℕ, List, codes, Option, Some, None}
use Rattle.lc_changes.specs.FileChanges.{FileChangeModel, either_file, side_number}
use Rattle.lc_changes.specs.declared.{changed_row.ChangedRow.ChangedRow, kinds.sums.ChangedSums.ChangedSums}
use Rattle.lc_level.specs.Level.{FileLineModel}
use Rattle.lc_rows.specs.{Kinds.{file_value, row_value, sums_value}, ShownRows.number_in}
use Rattle.lc_sheet.specs.{ColumnWords.compared_column, Values.{ValueModel, missing, blank, word, number, difference, growth}}
use Rattle.lc_sheet.specs.declared.{column.Column.Column, form.Form.Form}
use Rattle.lc_walk.specs.declared.tally.sums.Sums.{Sums}
use Rattle.lc_sheet.specs.declared.column.Column.TheVariants as column
use Rattle.lc_sheet.specs.declared.column.Compared.TheVariants as compared

-- ---- rows and sums

-- the value of sums of the old and of the new report in a column that shows their numbers; any other column has another value
abbrev pub compared_value : Sums → Sums → Column → ValueModel → ValueModel
compared_value old new (column.Old (compared.Number n)) other = number (number_in n old)
compared_value old new (column.New (compared.Number n)) other = number (number_in n new)
compared_value old new (column.Difference n) other = difference (number_in n old) (number_in n new)
compared_value old new (column.Growth n) other = growth (number_in n old) (number_in n new)
compared_value old new column other = other

abbrev pub changed_value : Form → ChangedRow → Column → ValueModel
changed_value form r column = compared_value r.old_sums r.new_row.sums column (row_value form r.new_row column)

abbrev pub changed_sums_value : Form → ChangedSums → Column → ValueModel
changed_sums_value form s column = compared_value s.old_sums s.new_sums.sums column (sums_value form s.new_sums column)

-- ---- files

-- the value of a file, or another value if there is no file
abbrev pub value_or : ValueModel → Form → Option FileLineModel → Column → ValueModel
value_or absent form None column = absent
value_or absent form (Some f) column = file_value form f column

abbrev pub change_word : Option FileLineModel → Option FileLineModel → List ℕ
change_word None new = codes "added"
change_word (Some f) None = codes "removed"
change_word (Some f) (Some g) = codes "changed"

abbrev pub file_change_value : Form → FileChangeModel → Column → ValueModel
file_change_value form c column.Change = word (change_word c.old_file c.new_file)
file_change_value form c (column.Old compared) = value_or missing form c.old_file (compared_column compared)
file_change_value form c (column.New compared) = value_or missing form c.new_file (compared_column compared)
file_change_value form c (column.Difference n) = difference (side_number n c.old_file) (side_number n c.new_file)
file_change_value form c (column.Growth n) = growth (side_number n c.old_file) (side_number n c.new_file)
file_change_value form c other = value_or blank form (either_file c) other

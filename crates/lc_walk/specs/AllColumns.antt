-- All columns that rows of a report may be grouped by.
use Rattle.std.specs.Prelude.{true, None}
use Rattle.lc_sheet.specs.declared.table_options.Columns.{Columns}

-- all columns of a report's rows, and neither directories nor attributes
abbrev pub all_columns : Columns
all_columns = record { dir = None; attributes = 0; ext = true; text = true; eol = true }

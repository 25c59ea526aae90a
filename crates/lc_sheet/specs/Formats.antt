-- What is known of each format and of each output.
use Rattle.std.specs.Prelude.{Bool, true, false, List, [], ◌∷◌}
use Rattle.lc_sheet.specs.declared.{column.Column.Column, table_options.Format.{Format, TheVariants.{Tsv, Table, Json, Csv, Markdown}}}
use Rattle.lc_sheet.specs.declared.table_options.Output.{Output, TheVariants.Text}
use Rattle.lc_sheet.specs.declared.column.Column.TheVariants as column

-- whether a format shows the columns of keys that rows are summed over
abbrev pub keeps_columns : Format → Bool
keeps_columns Tsv = true
keeps_columns other = false

-- whether the lines of a format are records: each has all that is known of one thing, and sums are no lines among the rows
abbrev pub has_records : Format → Bool
has_records Json = true
has_records Csv = true
has_records other = false

-- the columns of shares and bars
abbrev pub share_columns : Format → List Column
share_columns Table = column.Share ∷ column.Bar ∷ []
share_columns Markdown = column.Share ∷ []
share_columns other = []

-- a text for reading, whose rows begin with the largest
abbrev pub is_for_reading : Output → Bool
is_for_reading (Text Table) = true
is_for_reading (Text Markdown) = true
is_for_reading other = false

-- The text of a sheet as CSV: records of one section, below the names of its columns.
use Rattle.std.specs.{Prelude.{ℕ, List, [], ◌∷◌, map, decimal, unwrap_or}, List.flat_map}
use Rattle.lc_sheet.specs.{ColumnWords.column_name, Sheets.{SectionModel, SheetModel}, Values.{ValueModel, missing, summed, blank, word}}
use Rattle.lc_sheet.specs.{Values.{flag, flag_word, name, path, number, share, bar, difference, growth}, declared.column.Column.Column}
use Rattle.lc_text.specs.Names.{named}
use Rattle.lc_formats.specs.CsvText.{record_text}

-- a value as a field, with the bytes of names and of paths as they are
abbrev pub field_of : ValueModel → List ℕ
field_of missing = []
field_of summed = []
field_of blank = []
field_of (word w) = w
field_of (flag is_set) = flag_word is_set
field_of (name n) = named (λ bytes. bytes) n
field_of (path p) = p
field_of (number n) = decimal n
field_of (share part whole) = []
field_of (bar part whole) = []
field_of (difference old new) = []
field_of (growth old new) = []

-- the name of a column as a field
abbrev pub header_field : List (List ℕ) → Column → List ℕ
header_field attributes c = named (λ bytes. bytes) (column_name attributes c)

-- the names of the columns, and a record for each line
abbrev pub records_of : SectionModel → List (List (List ℕ))
records_of s = map (header_field s.attributes) s.columns ∷ map (map field_of) s.lines

-- the section whose lines are the records: that of files if the sheet has it, or else that of skipped entries, or else that of rows
abbrev pub csv_section : SheetModel → SectionModel
csv_section s = unwrap_or s.files (unwrap_or s.skipped s.rows)

abbrev pub csv_of : SheetModel → List ℕ
csv_of s = flat_map record_text (records_of (csv_section s))

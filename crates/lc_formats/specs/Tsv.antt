-- The text of a sheet with tabs between fields: a header, a line for each row, the sums, the directories, the files, the skipped entries,
-- the errors.
use Rattle.std.specs.{Prelude.{ℕ, List, [], ◌∷◌, ◌++◌, false, map, codes, decimal, Option, Some, None}, List.flat_map}
use Rattle.lc_sheet.specs.{ColumnWords.column_name, Sheets.{SectionModel, SheetModel}, Values.{ValueModel, missing, summed, blank, word}}
use Rattle.lc_sheet.specs.{Values.{flag, flag_word, name, path, number, share, bar, difference, growth}, declared.column.Column.Column}
use Rattle.lc_text.specs.{Escape.{escape_bytes, escape_path}, Names.named}
use Rattle.lc_formats.specs.TableText.{shown_lines}

-- a value as a field: a dash if the value is missing, a star if the line is summed over the column
abbrev pub field_of : ValueModel → List ℕ
field_of missing = codes "-"
field_of summed = codes "*"
field_of blank = []
field_of (word w) = w
field_of (flag is_set) = flag_word is_set
field_of (name n) = named escape_bytes n
field_of (path p) = escape_path p
field_of (number n) = decimal n
field_of (share part whole) = []
field_of (bar part whole) = []
field_of (difference old new) = []
field_of (growth old new) = []

-- a line of fields with tabs between them, and a line feed at its end
abbrev pub line_with : List (List ℕ) → List ℕ
line_with [] = codes "\n"
line_with (f ∷ []) = f ++ codes "\n"
line_with (f ∷ g ∷ fs) = f ++ codes "\t" ++ line_with (g ∷ fs)

-- the name of a column as a field, and a line of these names
abbrev pub header_field : List (List ℕ) → Column → List ℕ
header_field attributes c = named escape_bytes (column_name attributes c)

abbrev pub header_line : List (List ℕ) → List Column → List ℕ
header_line attributes columns = line_with (map (header_field attributes) columns)

-- the fields of a line: the word that names it, if there is one, and its values
abbrev pub values_line : Option (List ℕ) → List ValueModel → List ℕ
values_line None values = line_with (map field_of values)
values_line (Some tag) values = line_with (tag ∷ map field_of values)

abbrev pub section_lines : SectionModel → List ℕ
section_lines s = flat_map (values_line s.tag) s.lines

-- the line of a number, if the sheet has this number
abbrev pub number_line : List ℕ → Option ℕ → List ℕ
number_line tag None = []
number_line tag (Some n) = line_with (tag ∷ decimal n ∷ [])

-- the lines of a list, if the sheet has this list
abbrev pub list_lines : Option SectionModel → List ℕ
list_lines None = []
list_lines (Some s) = section_lines s

-- the text of a sheet; of the lines of totals only the first is written, the sums over all files
abbrev pub tsv_of : SheetModel → List ℕ
tsv_of s =
    header_line s.rows.attributes s.rows.columns ++ section_lines s.rows ++ section_lines s.others
    ++ section_lines (shown_lines false s.totals) ++ number_line (codes "directories") s.directories
    ++ number_line (codes "entries") s.entries ++ list_lines s.files ++ list_lines s.skipped ++ list_lines s.faults

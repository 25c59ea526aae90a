-- The text of a sheet as Markdown: tables of GitHub Flavored Markdown, with empty lines between the tables.
use Rattle.std.specs.Prelude.{ℕ, List, [], ◌∷◌, ◌++◌, map, flat_map, codes, Option, Some, None}
use Rattle.lc_sheet.specs.{ColumnWords.side_of, Sheets.{SectionModel, SheetModel}, Values.{ValueModel, number}}
use Rattle.lc_sheet.specs.declared.column.Column.{Column}
use Rattle.lc_formats.specs.{Cells.heading_value, MarkdownCells.{rule_cell, value_cell}, TableText.shown_totals}
use Rattle.lc_formats.specs.declared.markdown_line.Weight.{Weight}
use Rattle.lc_formats.specs.declared.markdown_line.Weight.TheVariants.{Plain, Bold}

-- ---- lines

-- a line of a table: a bar, and each value with a bar after it
abbrev pub line_with : Weight → List ValueModel → List ℕ
line_with weight values = codes "|" ++ (flat_map (value_cell weight) values ++ codes "\n")

abbrev pub lines_with : Weight → List (List ValueModel) → List ℕ
lines_with weight lines = flat_map (line_with weight) lines

-- the line below the headings, which sets the sides of the columns
abbrev pub rule_with : List Column → List ℕ
rule_with columns = codes "|" ++ (flat_map (λ c. rule_cell (side_of c)) columns ++ codes "\n")

abbrev pub headings_with : List (List ℕ) → List Column → List ℕ
headings_with attributes columns = line_with Plain (map (heading_value attributes) columns) ++ rule_with columns

-- ---- sections

-- headings, and lines below them
abbrev pub section_table : SectionModel → List ℕ
section_table s = headings_with s.attributes s.columns ++ lines_with Plain s.lines

-- a text, or nothing if there are no lines
abbrev pub if_listed : List (List ValueModel) → List ℕ → List ℕ
if_listed [] text = []
if_listed (l ∷ ls) text = text

-- the table of a list with an empty line below it, if the sheet has the list; a table with an empty line above it is below
abbrev pub list_above : Option SectionModel → List ℕ
list_above None = []
list_above (Some s) = if_listed s.lines (section_table s ++ codes "\n")

abbrev pub list_below : Option SectionModel → List ℕ
list_below None = []
list_below (Some s) = if_listed s.lines (codes "\n" ++ section_table s)

-- ---- sheets

-- the rows, and their sums in bold
abbrev pub summary_with : SectionModel → SectionModel → SectionModel → List ℕ
summary_with rows others totals = section_table rows ++ lines_with Bold others.lines ++ lines_with Bold totals.lines

-- the number of directories, and the number of entries if the sheet has this number
abbrev pub counts_with : ℕ → Option ℕ → List ℕ
counts_with directories None = codes "| directories |\n| ---: |\n" ++ line_with Plain (number directories ∷ [])
counts_with directories (Some entries) =
    codes "| directories | entries |\n| ---: | ---: |\n" ++ line_with Plain (number directories ∷ number entries ∷ [])

-- the numbers below an empty line, if the sheet has them
abbrev pub counts_below : Option ℕ → Option ℕ → List ℕ
counts_below None entries = []
counts_below (Some directories) entries = codes "\n" ++ counts_with directories entries

-- what is listed, the rows with their sums, the numbers, and what could not be read
abbrev pub markdown_of : SheetModel → List ℕ
markdown_of s =
    list_above s.files ++ list_above s.skipped ++ summary_with s.rows s.others (shown_totals s)
    ++ counts_below s.directories s.entries ++ list_below s.faults

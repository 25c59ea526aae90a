-- The text of a sheet for reading: sections in columns, with empty lines between the sections.
use Rattle.std.specs.Prelude.{ℕ, Bool, if◌then◌else◌, List, [], ◌∷◌, ◌++◌, take, codes, Option, Some, None}
use Rattle.lc_sheet.specs.{Sheets.{SectionModel, SheetModel}, Values.{word, number}, declared.column.Side.TheVariants.{Left, Right}}
use Rattle.lc_formats.specs.{BarCells.{bar_cells, ends_in_bars, ruled}, Cells.{cell_at, heading_cells, section_cells}, Shares.full_bar}
use Rattle.lc_formats.specs.Columns.{CellModel, widths_of, line_in, lines_in, rule_in}

-- ---- the rows and their sums

-- a section without its tag and without the names of attributes, and with all of its lines, or else with its first line alone
abbrev pub shown_lines : Bool → SectionModel → SectionModel
shown_lines all s = record { tag = None; attributes = []; columns = s.columns; lines = if all then s.lines else take 1 s.lines }

-- the sums over all files, and also the sums over text files and over binary files if some file is binary
abbrev pub shown_totals : SheetModel → SectionModel
shown_totals s = shown_lines s.some_binary s.totals

-- the headings, the rows and the sums, with a rule between them
abbrev pub rows_in_columns : List ℕ → List ℕ → List CellModel → List (List CellModel) → List (List CellModel) → List ℕ
rows_in_columns ws rule headings rows sums = line_in ws headings ++ rule ++ lines_in ws rows ++ rule ++ lines_in ws sums

-- the lines of the rows, and of the sums over the rows that are cut off, if there are any, with bars of k cells
abbrev pub row_lines : ℕ → SectionModel → SectionModel → List (List CellModel)
row_lines k rows others = section_cells k rows ++ section_cells k others

abbrev pub summary_widths : ℕ → SectionModel → SectionModel → SectionModel → List ℕ
summary_widths k rows others totals =
    widths_of (heading_cells rows.attributes rows.columns ∷ (row_lines k rows others ++ section_cells k totals))

-- how many cells the longest bar has: if bars are in the last column, as many as fit beside the other columns
abbrev pub summary_bar : SectionModel → SectionModel → SectionModel → ℕ
summary_bar rows others totals =
    if ends_in_bars rows.columns then bar_cells (summary_widths full_bar rows others totals) else full_bar

abbrev pub summary_with : ℕ → SectionModel → SectionModel → SectionModel → List ℕ
summary_with k rows others totals =
    rows_in_columns (summary_widths k rows others totals) (rule_in (ruled k (summary_widths k rows others totals)))
    (heading_cells rows.attributes rows.columns) (row_lines k rows others) (section_cells k totals)

abbrev pub summary_of : SectionModel → SectionModel → SectionModel → List ℕ
summary_of rows others totals = summary_with (summary_bar rows others totals) rows others totals

abbrev pub summary : SheetModel → List ℕ
summary s = summary_of s.rows s.others (shown_totals s)

-- ---- what is listed

-- the headings, the lines and an empty line, or nothing if there are no lines
abbrev pub listing : List CellModel → List (List CellModel) → List ℕ
listing headings [] = []
listing headings (l ∷ ls) = lines_in (widths_of (headings ∷ l ∷ ls)) (headings ∷ l ∷ ls) ++ codes "\n"

abbrev pub section_listing : SectionModel → List ℕ
section_listing s = listing (heading_cells s.attributes s.columns) (section_cells full_bar s)

-- the same, if the sheet has the list
abbrev pub list_listing : Option SectionModel → List ℕ
list_listing None = []
list_listing (Some s) = section_listing s

-- ---- the numbers of directories and of their entries

abbrev pub count_cells : List ℕ → ℕ → List CellModel
count_cells name n = cell_at full_bar Left (word name) ∷ cell_at full_bar Right (number n) ∷ []

abbrev pub entries_line : Option ℕ → List (List CellModel)
entries_line None = []
entries_line (Some n) = count_cells (codes "entries") n ∷ []

abbrev pub count_lines : ℕ → Option ℕ → List (List CellModel)
count_lines directories entries = count_cells (codes "directories") directories ∷ entries_line entries

abbrev pub counts_of : ℕ → Option ℕ → List ℕ
counts_of directories entries =
    lines_in (widths_of (count_lines directories entries)) (count_lines directories entries)

-- the numbers below an empty line, if the sheet has them
abbrev pub counts_below : Option ℕ → Option ℕ → List ℕ
counts_below None entries = []
counts_below (Some directories) entries = codes "\n" ++ counts_of directories entries

-- ---- the whole text: what is listed, and last the rows with their sums

abbrev pub table_of : SheetModel → List ℕ
table_of s =
    list_listing s.files ++ list_listing s.skipped ++ list_listing s.faults ++ summary s ++ counts_below s.directories s.entries

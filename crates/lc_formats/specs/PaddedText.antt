-- Parts of a text in columns with all the blanks of their columns.
use Rattle.std.specs.Prelude.{ℕ, ◌-◌, List, ◌++◌, Option, codes, replicate}
use Rattle.lc_sheet.specs.Sheets.{SectionModel, SheetModel}
use Rattle.lc_formats.specs.{BarCells.ruled, Blanks.{padded_line, padded_lines}, Cells.{heading_cells, section_cells}}
use Rattle.lc_formats.specs.{Columns.{CellModel, line_width, spaces, widths_of}, TableText.{count_lines, row_lines, shown_totals}}
use Rattle.lc_formats.specs.TableText.{summary_bar, summary_widths}

-- a rule, with the blanks of the column below which it is not drawn
abbrev pub padded_rule : ℕ → List ℕ → List ℕ
padded_rule k ws =
    replicate (line_width (ruled k ws)) 45 ++ (spaces (line_width ws - line_width (ruled k ws)) ++ codes "\n")

-- the headings, the rows and the sums, with a rule between them
abbrev pub padded_rows : ℕ → List ℕ → List CellModel → List (List CellModel) → List (List CellModel) → List ℕ
padded_rows k ws headings rows sums =
    padded_line ws headings ++ padded_rule k ws ++ padded_lines ws rows ++ padded_rule k ws ++ padded_lines ws sums

abbrev pub padded_with : ℕ → SectionModel → SectionModel → SectionModel → List ℕ
padded_with k rows others totals =
    padded_rows k (summary_widths k rows others totals) (heading_cells rows.attributes rows.columns) (row_lines k rows others)
    (section_cells k totals)

abbrev pub padded_summary : SheetModel → List ℕ
padded_summary s = padded_with (summary_bar s.rows s.others (shown_totals s)) s.rows s.others (shown_totals s)

-- the numbers of directories and of their entries
abbrev pub padded_counts : ℕ → Option ℕ → List ℕ
padded_counts directories entries =
    padded_lines (widths_of (count_lines directories entries)) (count_lines directories entries)

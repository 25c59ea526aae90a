-- The cells that show the values of a section, and the texts in them.
use Rattle.std.specs.Prelude.{ℕ, ◌*◌, List, [], ◌∷◌, map, codes, decimal}
use Rattle.lc_text.specs.{Names.named, Visible.{visible_bytes, visible_path}}
use Rattle.lc_sheet.specs.{ColumnWords.{heading_name, side_of}, Sheets.SectionModel, Values.{ValueModel, missing, summed, blank, word}}
use Rattle.lc_sheet.specs.{Values.{flag, flag_word, name, path, number, share, bar, difference, growth, value_model}}
use Rattle.lc_sheet.specs.declared.column.Column.{Column}
use Rattle.lc_sheet.specs.declared.column.Side.{Side}
use Rattle.lc_formats.specs.{CellWords.{change_word, growth_word, with_commas}, Columns.CellModel, Shares.{bar as bar_text, rounded_parts}}
use Rattle.lc_formats.specs.Shares.{full_bar, share_word}
use Rattle.lc_formats.specs.declared.cells.Cell.{Cell}

-- the text of a value for reading, where the bar of a whole has k cells: `-` if the value is missing, and nothing if the column is summed
-- over or does not apply
abbrev pub shown_in : ℕ → ValueModel → List ℕ
shown_in k missing = codes "-"
shown_in k summed = []
shown_in k blank = []
shown_in k (word w) = w
shown_in k (flag is_set) = flag_word is_set
shown_in k (name n) = named visible_bytes n
shown_in k (path p) = visible_path p
shown_in k (number n) = with_commas (decimal n)
shown_in k (share part whole) = share_word (rounded_parts 1000 part whole)
shown_in k (bar part whole) = bar_text (rounded_parts (8 * k) part whole)
shown_in k (difference old new) = change_word old new
shown_in k (growth old new) = growth_word old new

abbrev pub shown_text : ValueModel → List ℕ
shown_text value = shown_in full_bar value

abbrev pub cell_at : ℕ → Side → ValueModel → CellModel
cell_at k side value = record { side = side; text = shown_in k value }

-- the cell of a value in a column; the cell of the column's heading is below
abbrev pub cell_of : ℕ → Column → ValueModel → CellModel
cell_of k column value = cell_at k (side_of column) value

abbrev pub heading_value : List (List ℕ) → Column → ValueModel
heading_value attributes column = name (heading_name attributes column)

abbrev pub heading_cell : List (List ℕ) → Column → CellModel
heading_cell attributes column = cell_of full_bar column (heading_value attributes column)

-- ---- the lines of a section

-- the cells of a line: each value in its column
abbrev pub line_cells : ℕ → List Column → List ValueModel → List CellModel
line_cells k [] values = []
line_cells k (c ∷ cs) [] = []
line_cells k (c ∷ cs) (v ∷ vs) = cell_of k c v ∷ line_cells k cs vs

abbrev pub heading_cells : List (List ℕ) → List Column → List CellModel
heading_cells attributes columns = map (heading_cell attributes) columns

abbrev pub section_cells : ℕ → SectionModel → List (List CellModel)
section_cells k s = map (line_cells k s.columns) s.lines

-- ---- the cells of the code

abbrev pub cell_model : Cell → CellModel
cell_model c = cell_at c.bar c.side (value_model c.value)

abbrev pub cells_of : List Cell → List CellModel
cells_of cells = map cell_model cells

-- The bar chart of the rows of a sheet.
use Rattle.std.specs.{Prelude.{ℕ, ◌-◌, min, List, [], ◌∷◌, ◌++◌, flat_map, codes}, List.enumerate_from}
use Rattle.lc_sheet.specs.{Sheets.SheetModel, Values.ValueModel}
use Rattle.lc_text.specs.{Names.named, Visible.{visible_bytes, visible_path}}
use Rattle.lc_picture.specs.{Colours.shared_colour, Pieces.{Piece, count, markup, name, percent, share}}
use Rattle.lc_sheet.specs.Values as value

-- the cell of a text, which is the first cell of its line
abbrev pub name_cell : List ℕ → List Piece
name_cell text = markup (codes "<th>") ∷ name text ∷ markup (codes "</th>") ∷ []

abbrev pub number_cell : ℕ → List Piece
number_cell n = markup (codes "<td>") ∷ count n ∷ markup (codes "</td>") ∷ []

abbrev pub share_cell : ℕ → ℕ → List Piece
share_cell part whole = markup (codes "<td>") ∷ percent part whole ∷ markup (codes "</td>") ∷ []

abbrev pub empty_cell : List Piece
empty_cell = markup (codes "<td></td>") ∷ []

-- the cell with a bar and the space next to the bar
abbrev pub bar_cell : ℕ → ℕ → List Piece
bar_cell part whole =
    markup (codes "<td><div class=\"bar\"><i style=\"--n:") ∷ share part ∷ markup (codes "\"></i><u style=\"--n:")
    ∷ share (whole - part) ∷ markup (codes "\"></u></div></td>") ∷ []

-- the cell of a value. Texts are as a terminal shows them
abbrev pub cell : ValueModel → List Piece
cell value.missing = name_cell (codes "-")
cell value.summed = empty_cell
cell value.blank = empty_cell
cell (value.word w) = name_cell w
cell (value.flag is_set) = name_cell (value.flag_word is_set)
cell (value.name n) = name_cell (named visible_bytes n)
cell (value.path p) = name_cell (visible_path p)
cell (value.number n) = number_cell n
cell (value.share part whole) = share_cell part whole
cell (value.bar part whole) = bar_cell part whole
cell (value.difference old new) = empty_cell
cell (value.growth old new) = empty_cell

abbrev pub cells_in : List ValueModel → List Piece
cells_in values = flat_map cell values

-- the cells of a line, and its end
abbrev pub cells : List ValueModel → List Piece
cells values = cells_in values ++ markup (codes "</tr>\n") ∷ []

-- a line without a colour
abbrev pub plain_line : List ValueModel → List Piece
plain_line values = markup (codes "<tr>") ∷ cells values

abbrev pub plain_lines : List (List ValueModel) → List Piece
plain_lines lines = flat_map plain_line lines

-- the colour of a line at this place. The first lines have colours of their own
abbrev pub line_colour : ℕ → ℕ
line_colour place = min place shared_colour

-- the beginning of a line with the colour of its place
abbrev pub coloured : ℕ → List Piece
coloured place = markup (codes "<tr class=\"e") ∷ share (line_colour place) ∷ markup (codes "\">") ∷ []

abbrev pub coloured_line : ℕ → List ValueModel → List Piece
coloured_line place values = coloured place ++ cells values

-- lines with colours, of which the first has this place
abbrev pub coloured_lines : ℕ → List (List ValueModel) → List Piece
coloured_lines place lines = flat_map (λ line. coloured_line line.0 line.1) (enumerate_from place lines)

-- the chart of a sheet: its rows, and the sums over the rows for which it has no place
abbrev pub chart : SheetModel → List Piece
chart s = coloured_lines 0 s.rows.lines ++ plain_lines s.others.lines

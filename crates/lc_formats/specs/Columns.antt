-- Lines of cells in columns, each as wide as its widest cell.
use Rattle.std.specs.Prelude.{ℕ, ◌+◌, ◌-◌, max, Bool, true, false, if◌then◌else◌, List, [], ◌∷◌, ◌++◌, map, slice_index, replicate}
use Rattle.std.specs.Prelude.{flat_map, chars, codes}
use Rattle.unicode_width.specs.Width.{str_width}
use Rattle.lc_sheet.specs.declared.column.Side.{Side, TheVariants.{Left, Right, End}}

-- a cell: a text, and the side of its column at which the text is aligned
pub record CellModel : Type 0 where
  pub side : Side
  pub text : List ℕ

-- how many columns of a terminal a text takes
abbrev pub width_of : List ℕ → ℕ
width_of t = str_width false (chars t)

abbrev pub width_at : Side → List ℕ → ℕ
width_at Left t = width_of t
width_at Right t = width_of t
width_at End t = 0

abbrev pub spaces : ℕ → List ℕ
spaces n = replicate n 32

-- a text in a column of this width
abbrev pub text_at : Side → ℕ → List ℕ → List ℕ
text_at Left width t = t ++ spaces (width - width_of t)
text_at Right width t = spaces (width - width_of t) ++ t
text_at End width t = t

-- the wider of two widths, for each column
abbrev pub wider : List ℕ → List ℕ → List ℕ
wider [] ws = ws
wider (v ∷ vs) [] = v ∷ vs
wider (v ∷ vs) (w ∷ ws) = max v w ∷ wider vs ws

abbrev pub cell_widths : List CellModel → List ℕ
cell_widths cells = map (λ c. width_at c.side c.text) cells

-- the widths of columns, widened so that they also hold these lines
abbrev pub widened : List ℕ → List (List CellModel) → List ℕ
widened ws [] = ws
widened ws (line ∷ lines) = widened (wider ws (cell_widths line)) lines

abbrev pub widths_of : List (List CellModel) → List ℕ
widths_of lines = widened [] lines

-- the gap between a cell and the cells after it: two spaces, or nothing at the end of a line
abbrev pub gap : List CellModel → List ℕ
gap [] = []
gap (c ∷ cs) = codes "  "

-- ---- a line, which ends after its last text

abbrev pub has_text : List ℕ → Bool
has_text [] = false
has_text (c ∷ cs) = true

-- whether a cell shows something: it has a text, or is the end of its line
abbrev pub is_shown : Side → List ℕ → Bool
is_shown Left t = has_text t
is_shown Right t = has_text t
is_shown End t = true

-- a cell before the shown cells that follow; it is dropped if it shows nothing and none follow
abbrev pub before_shown : CellModel → List CellModel → List CellModel
before_shown c [] = if is_shown c.side c.text then c ∷ [] else []
before_shown c (d ∷ ds) = c ∷ d ∷ ds

-- the cells of a line up to the last cell that shows something
abbrev pub shown_cells : List CellModel → List CellModel
shown_cells [] = []
shown_cells (c ∷ cs) = before_shown c (shown_cells cs)

-- n blanks before these cells, or none at the end of a line
abbrev pub blanks_before : List CellModel → ℕ → List ℕ
blanks_before [] n = []
blanks_before (c ∷ cs) n = spaces n

-- a text in a column of this width, followed by these cells
abbrev pub text_before : List CellModel → Side → ℕ → List ℕ → List ℕ
text_before cs Left width t = t ++ blanks_before cs (width - width_of t)
text_before cs Right width t = text_at Right width t
text_before cs End width t = t

-- the cells of a line from this column on, in columns of these widths
abbrev pub cells_from : ℕ → List ℕ → List CellModel → List ℕ
cells_from column ws [] = codes "\n"
cells_from column ws (c ∷ cs) =
    text_before cs c.side (slice_index ws column) c.text ++ (gap cs ++ cells_from (column + 1) ws cs)

abbrev pub line_in : List ℕ → List CellModel → List ℕ
line_in ws cells = cells_from 0 ws (shown_cells cells)

abbrev pub lines_in : List ℕ → List (List CellModel) → List ℕ
lines_in ws lines = flat_map (line_in ws) lines

-- headings, lines below them, and an empty line, in columns of these widths
abbrev pub listing_in : List ℕ → List CellModel → List (List CellModel) → List ℕ
listing_in ws headings lines = lines_in ws (headings ∷ lines) ++ codes "\n"

-- ---- how wide lines are

-- the width of the gap before further columns
abbrev pub gap_width : List ℕ → ℕ
gap_width [] = 0
gap_width (w ∷ ws) = 2

-- how many columns of a terminal lines take in columns of these widths, with the gaps between the columns
abbrev pub line_width : List ℕ → ℕ
line_width [] = 0
line_width (w ∷ ws) = w + (gap_width ws + line_width ws)

-- a line of hyphens that is as wide as these lines
abbrev pub rule_in : List ℕ → List ℕ
rule_in ws = replicate (line_width ws) 45 ++ codes "\n"

-- The lines of a tree: numbers in columns, and then a text that ends the line.
use Rattle.std.specs.Prelude.{ℕ, List, [], ◌∷◌, ◌++◌, map, codes, slice_index}
use Rattle.lc_sheet.specs.{ColumnWords.number_name, Values.{bar, number, share, word}, declared.column.Number.Number}
use Rattle.lc_sheet.specs.declared.column.Side.TheVariants.{Left, Right, End}
use Rattle.lc_formats.specs.{Cells.{cell_at, shown_text}, Columns.{CellModel, lines_in, text_at, widths_of}, Shares.full_bar}

-- a line: its number, and the text that ends it
pub record TreeLineModel : Type 0 where
  pub number : ℕ
  pub text : List ℕ

-- the headings of the number and of the share; nothing is above the bar and the text
abbrev pub tree_headings : Number → List CellModel
tree_headings by = cell_at full_bar Right (word (number_name by)) ∷ cell_at full_bar Right (word (codes "share")) ∷ []

-- the cells of a line: the number, its share of the whole, a bar for this share, and the text
abbrev pub tree_cells : ℕ → TreeLineModel → List CellModel
tree_cells whole l =
    cell_at full_bar Right (number l.number) ∷ cell_at full_bar Right (share l.number whole)
    ∷ cell_at full_bar Left (bar l.number whole) ∷ record { side = End; text = l.text } ∷ []

-- the columns of a line with this number, before the text
abbrev pub columns_before : List ℕ → ℕ → ℕ → List ℕ
columns_before ws whole n =
    text_at Right (slice_index ws 0) (shown_text (number n))
    ++ (codes "  " ++ (text_at Right (slice_index ws 1) (shown_text (share n whole))
    ++ (codes "  " ++ (text_at Left (slice_index ws 2) (shown_text (bar n whole)) ++ codes "  "))))

-- all lines, in columns that are as wide as their widest cells
abbrev pub lines_of_cells : List (List CellModel) → List ℕ
lines_of_cells lines = lines_in (widths_of lines) lines

abbrev pub tree_text : Number → ℕ → List TreeLineModel → List ℕ
tree_text by whole ls = lines_of_cells (tree_headings by ∷ map (tree_cells whole) ls)

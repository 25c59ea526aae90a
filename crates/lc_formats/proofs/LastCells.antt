-- The last cells of a line, one after the other.
use Rattle.std.proofs.{lemmas.{Grind.common_steps, List.{take_more, map-append}}, Common.{◌≡◌, ℕ, ◌+◌, ◌-◌, ◌<◌, ◌≤◌, Bool, true, false}}
use Rattle.std.proofs.{Common.{if◌then◌else◌, List, [], ◌∷◌, ◌++◌, length, take, get_or, ap, ◌∙◌, arith}}
use Rattle.lc_formats.specs.{Cells.{cell_model, cells_of}, Columns.{CellModel, before_shown, is_shown, shown_cells}}
use Rattle.lc_formats.specs.declared.cells.Cell.{Cell}

-- a last cell that is shown ends its line
pub shown-last : (cs : List CellModel) (c : CellModel) → is_shown c.side c.text ≡ true → shown_cells (cs ++ c ∷ []) ≡ cs ++ c ∷ []
shown-last [] c is = ap (λ b. if b then c ∷ [] else []) is
shown-last (d ∷ []) c is = ap (before_shown d) (shown-last [] c is)
shown-last (d ∷ e ∷ es) c is = ap (before_shown d) (shown-last (e ∷ es) c is)

-- and one that isn't is left out
pub hidden-last : (cs : List CellModel) (c : CellModel) → is_shown c.side c.text ≡ false → shown_cells (cs ++ c ∷ []) ≡ shown_cells cs
hidden-last [] c is = ap (λ b. if b then c ∷ [] else []) is
hidden-last (d ∷ cs) c is = ap (before_shown d) (hidden-last cs c is)

taken : (cells : List Cell) (n : ℕ) (d : Cell) → n < length cells
    → cells_of (take (n + 1) cells) ≡ cells_of (take n cells) ++ cell_model (get_or cells n d) ∷ []
taken cells n d h = ap cells_of (take_more cells n d h) ∙ map-append cell_model (take n cells) (get_or cells n d ∷ [])

taken_before : (cells : List Cell) (count : ℕ) (d : Cell) → 0 < count → count ≤ length cells
    → cells_of (take count cells) ≡ cells_of (take (count - 1) cells) ++ cell_model (get_or cells (count - 1) d) ∷ []
taken_before cells count d some fits = grind (arith, common_steps, taken)

-- the last of so many cells is shown
pub shown_there : (cells : List Cell) (count : ℕ) (d : Cell) (b : Bool) → 0 < count → count ≤ length cells
    → b ≡ is_shown (cell_model (get_or cells (count - 1) d)).side (cell_model (get_or cells (count - 1) d)).text → b ≡ true
    → shown_cells (cells_of (take count cells)) ≡ shown_cells (cells_of cells) → cells_of (take count cells) ≡ shown_cells (cells_of cells)
shown_there cells count d b some fits own is so_far = grind (arith, common_steps, taken_before, shown-last)

-- or it is not
pub hidden_there : (cells : List Cell) (count : ℕ) (d : Cell) (b : Bool) → 0 < count → count ≤ length cells
    → b ≡ is_shown (cell_model (get_or cells (count - 1) d)).side (cell_model (get_or cells (count - 1) d)).text → b ≡ false
    → shown_cells (cells_of (take count cells)) ≡ shown_cells (cells_of cells)
    → (count - 1 ≤ length cells) × (shown_cells (cells_of (take (count - 1) cells)) ≡ shown_cells (cells_of cells))
hidden_there cells count d b some fits own is so_far = grind (arith, common_steps, taken_before, hidden-last)

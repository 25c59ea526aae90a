-- The widths of columns after one more cell, as the code computes them.
use Rattle.std.specs.Prelude.{ℕ, zero, suc, max, List, [], ◌∷◌}

-- the widths with one column made as wide as a cell
abbrev pub with_width : List ℕ → ℕ → ℕ → List ℕ
with_width [] column width = width ∷ []
with_width (w ∷ ws) zero width = max w width ∷ ws
with_width (w ∷ ws) (suc column) width = w ∷ with_width ws column width

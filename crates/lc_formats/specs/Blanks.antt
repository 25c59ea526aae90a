-- Blanks at the ends of lines, and lines with all the blanks of their columns.
use Rattle.std.specs.Prelude.{ℕ, ◌+◌, ◌==◌, Bool, false, if◌then◌else◌, List, [], ◌∷◌, ◌++◌, slice_index, flat_map, codes}
use Rattle.lc_formats.specs.Columns.{CellModel, gap, text_at}

-- whether the last character of a text is a space
abbrev pub ends_in_blank : List ℕ → Bool
ends_in_blank [] = false
ends_in_blank (c ∷ []) = c == 32
ends_in_blank (c ∷ d ∷ ds) = ends_in_blank (d ∷ ds)

-- a character followed by the rest of its line; a blank at the end of the line is dropped
abbrev pub char_before : ℕ → List ℕ → List ℕ
char_before c [] = if c == 32 then [] else c ∷ []
char_before c (d ∷ ds) = c ∷ d ∷ ds

-- a line without the blanks at its end
abbrev pub without_blanks : List ℕ → List ℕ
without_blanks [] = []
without_blanks (c ∷ cs) = char_before c (without_blanks cs)

-- ---- each text with the blanks of its column

abbrev pub padded_from : ℕ → List ℕ → List CellModel → List ℕ
padded_from column ws [] = codes "\n"
padded_from column ws (c ∷ cs) = text_at c.side (slice_index ws column) c.text ++ (gap cs ++ padded_from (column + 1) ws cs)

abbrev pub padded_line : List ℕ → List CellModel → List ℕ
padded_line = padded_from 0

abbrev pub padded_lines : List ℕ → List (List CellModel) → List ℕ
padded_lines ws lines = flat_map (padded_line ws) lines

-- The lines of an input.
use Rattle.std.specs.Prelude.{ℕ, cond, List, [], ◌∷◌, ◌++◌, codes}
use Rattle.lc_glob.specs.{Bytes.nul, Lists.is_empty, Pieces.pieces_of}
use Rattle.lc_rules.specs.Bytes.{line_feed}
use Rattle.lc_text.specs.declared.lines.PathEnd.{PathEnd, TheVariants.{LineFeed, Nul}}

-- these pieces without the last one if it is empty
abbrev pub without_empty_last : List (List ℕ) → List (List ℕ)
without_empty_last [] = []
without_empty_last (p ∷ []) = cond (is_empty p) [] (p ∷ [])
without_empty_last (p ∷ q ∷ ps) = p ∷ without_empty_last (q ∷ ps)

-- the byte at which a path ends
abbrev pub end_byte : PathEnd → ℕ
end_byte LineFeed = line_feed
end_byte Nul = nul

-- the paths between the bytes that end them; the last path needs no such byte, and an empty rest after the last one is no path
abbrev pub input_paths_of : PathEnd → List ℕ → List (List ℕ)
input_paths_of end bytes = without_empty_last (pieces_of (end_byte end) bytes)

-- the lines between line feeds
abbrev pub input_lines_of : List ℕ → List (List ℕ)
input_lines_of bytes = input_paths_of LineFeed bytes

-- a line with its line feed
abbrev pub with_feed : List ℕ → List ℕ
with_feed line = line ++ codes "\n"

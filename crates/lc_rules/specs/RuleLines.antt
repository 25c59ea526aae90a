-- The lines of an ignore file or an attribute file.
use Rattle.std.specs.{Prelude.{ℕ, ◌==◌, ◌&&◌, if◌then◌else◌, List, ◌∷◌, Option}, Borrow.Bor}
use Rattle.lc_glob.specs.Pieces.{pieces_of, pieces_left}
use Rattle.lc_rules.specs.Bytes.{line_feed}

-- a file without the byte order mark at its start
abbrev pub without_mark : List ℕ → List ℕ
without_mark (a ∷ b ∷ c ∷ rest) = if a == 0xEF && b == 0xBB && c == 0xBF then rest else a ∷ b ∷ c ∷ rest
without_mark bytes = bytes

-- the pieces of a file between line feeds. The piece after a last line feed is empty, and an empty line gives nothing in either format, so
-- this piece adds no rule
abbrev pub lines_of : List ℕ → List (List ℕ)
lines_of bytes = pieces_of line_feed (without_mark bytes)

-- the lines that are still to be read, or none after the last
abbrev pub lines_left : Option (Bor (List ℕ)) → List (List ℕ)
lines_left rest = pieces_left line_feed rest

-- The lines of a tree: before the name of each a trunk for each directory above it that has further lines, and a branch to the line.
use Rattle.std.specs.Prelude.{ℕ, zero, suc, ◌==◌, Bool, true, false, nat_lt, if◌then◌else◌, List, [], ◌∷◌, ◌++◌, codes, encode_utf8}
use Rattle.lc_formats.specs.TreeText.{TreeLineModel}
use Rattle.lc_rows.specs.ShownRows.{number_in}
use Rattle.lc_sheet.specs.declared.column.Number.{Number}
use Rattle.lc_picture.specs.{Boxes.BoxModel, Rests.shown_name}

-- whether a level goes on in the lines that follow: whether the first of them that is not deeper has this depth
abbrev pub goes_on : List BoxModel → ℕ → Bool
goes_on [] level = false
goes_on (b ∷ bs) level = if nat_lt level b.depth then goes_on bs level else b.depth == level

-- a trunk (U+2502) for a level that goes on, and blanks for another
abbrev pub trunk : Bool → List ℕ
trunk true = encode_utf8 0x2502 ++ codes "   "
trunk false = codes "    "

-- the branch to a line (U+251C, U+2514, U+2500), which is the last of its level or is not
abbrev pub branch : Bool → List ℕ
branch true = encode_utf8 0x251C ++ (encode_utf8 0x2500 ++ (encode_utf8 0x2500 ++ codes " "))
branch false = encode_utf8 0x2514 ++ (encode_utf8 0x2500 ++ (encode_utf8 0x2500 ++ codes " "))

-- the trunks of the levels 1 to n
abbrev pub trunks : (ℕ → Bool) → ℕ → List ℕ
trunks going zero = []
trunks going (suc n) = trunks going n ++ trunk (going (suc n))

-- the marks before a line of this depth
abbrev pub marks : (ℕ → Bool) → ℕ → List ℕ
marks going zero = []
marks going (suc n) = trunks going n ++ branch (going (suc n))

-- the line of a box: its number, and its name with the marks before it
abbrev pub marked : Number → (ℕ → Bool) → BoxModel → TreeLineModel
marked by going b = record { number = number_in by b.sums; text = marks going b.depth ++ shown_name by b }

-- the lines of boxes that come depth first
abbrev pub drawn_lines : Number → List BoxModel → List TreeLineModel
drawn_lines by [] = []
drawn_lines by (b ∷ bs) = marked by (goes_on bs) b ∷ drawn_lines by bs

-- Strips: the boxes right in a box are in rows, one below the other. Which boxes begin a strip is free.
use Rattle.std.specs.Prelude.{ℕ, ◌+◌, ◌==◌, nat_lt, if◌then◌else◌, List, [], ◌∷◌}
use Rattle.lc_rows.specs.ShownRows.{number_in}
use Rattle.lc_sheet.specs.declared.column.Number.{Number}
use Rattle.lc_picture.specs.Boxes.{BoxModel}

-- the boxes of this depth before the next strip begins, of the boxes that follow one of them depth first
abbrev pub strip_left : ℕ → List BoxModel → List BoxModel
strip_left depth [] = []
strip_left depth (b ∷ bs) =
    if nat_lt b.depth depth then []
    else if b.depth == depth then (if b.begins_strip then [] else b ∷ strip_left depth bs)
    else strip_left depth bs

-- the boxes of the strip that begins with a box, which these boxes follow
abbrev pub strip_of : BoxModel → List BoxModel → List BoxModel
strip_of b bs = b ∷ strip_left b.depth bs

-- the boxes of the first strip in a box of this depth, which these boxes follow; none where no box is inside
abbrev pub first_strip : ℕ → List BoxModel → List BoxModel
first_strip depth [] = []
first_strip depth (b ∷ bs) = if nat_lt depth b.depth then strip_of b bs else []

-- the number of a strip
abbrev pub strip_number : Number → List BoxModel → ℕ
strip_number by [] = 0
strip_number by (b ∷ bs) = number_in by b.sums + strip_number by bs

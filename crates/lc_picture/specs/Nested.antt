-- The boxes of a page as tags: each box is inside the box of the directory above it, in a strip of this.
use Rattle.std.specs.Prelude.{ℕ, ◌+◌, ◌-◌, ◌&&◌, nat_lt, if◌then◌else◌, List, [], ◌∷◌, ◌++◌, length, min, replicate, codes}
use Rattle.lc_rows.specs.ShownRows.{number_in}
use Rattle.lc_sheet.specs.declared.column.Number.{Number}
use Rattle.lc_text.specs.Visible.{visible_path}
use Rattle.lc_picture.specs.{declared.scale.Scale.Scale, Boxes.BoxModel, Pieces.{Piece, count, markup, name, share, share_pieces, sums_pieces}}
use Rattle.lc_picture.specs.{Pieces.title, Rests.shown_name, Strips.{first_strip, strip_number, strip_of}}

-- the tag of the label of a directory, which is a link to the box itself: `place` tells it from all other boxes
abbrev pub link : ℕ → List Piece
link place = markup (codes "\" id=\"b") ∷ share place ∷ markup (codes "\"><a href=\"#b") ∷ share place ∷ markup (codes "\" title=\"") ∷ []

-- the tag of the label of a box
abbrev pub label_tag : ℕ → BoxModel → List Piece
label_tag place b =
    if b.is_rest then markup (codes "\"><a title=\"others in ") ∷ []
    else if b.is_file then markup (codes "\"><a title=\"") ∷ []
    else link place

-- the tag of a box, with its colour and its number, and that of its label
abbrev pub tag : Number → ℕ → BoxModel → List Piece
tag by place b =
    markup (codes "<div class=\"b e") ∷ share b.colour ∷ markup (codes "\" style=\"--n:") ∷ share (number_in by b.sums) ∷ label_tag place b

-- the title of a box, which the browser shows at the pointer: the path, the sums, and the share of the number that is drawn
abbrev pub title_of : Scale → BoxModel → List Piece
title_of scale b =
    title (visible_path b.path) ∷ markup (codes ": ") ∷ (sums_pieces b.sums ++ share_pieces scale (number_in scale.by b.sums))

-- the label of a box: its name and its number, and the tag of the first strip in it, which has this number
abbrev pub label : Number → ℕ → BoxModel → List Piece
label by strip b =
    markup (codes "\"><b>") ∷ name (shown_name by b) ∷ markup (codes "</b> <span>") ∷ count (number_in by b.sums)
    ∷ markup (codes "</span></a><div style=\"--n:") ∷ share strip ∷ markup (codes "\">") ∷ []

-- the beginning of a box, which these boxes follow: its tag, its title and its label
abbrev pub opening : Scale → BoxModel → List BoxModel → List Piece
opening scale b bs =
    tag scale.by (length bs) b ++ (title_of scale b ++ label scale.by (strip_number scale.by (first_strip b.depth bs)) b)

-- the end of a box and of its last strip
abbrev pub closing : Piece
closing = markup (codes "</div></div>\n")

abbrev pub closings : ℕ → List Piece
closings n = replicate n closing

-- the end of a strip, and the tag of the next one, which has this number
abbrev pub next_strip : ℕ → List Piece
next_strip n = markup (codes "</div><div style=\"--n:") ∷ share n ∷ markup (codes "\">") ∷ []

-- what is between a box and the strip that holds it and its neighbours, where `within` boxes are open before it: the tag of a further strip,
-- if the box begins one and is not the first in the box around it
abbrev pub strip_tag : Number → ℕ → BoxModel → List BoxModel → List Piece
strip_tag by within b bs = if b.begins_strip && nat_lt b.depth within then next_strip (strip_number by (strip_of b bs)) else []

-- the ends of those of the `within` open boxes that don't hold the next box, and the beginning of the next box
abbrev pub next_box : Scale → ℕ → BoxModel → List BoxModel → List Piece
next_box scale within b bs = closings (within - b.depth) ++ (strip_tag scale.by within b bs ++ opening scale b bs)

-- boxes that come depth first, where `within` boxes are open before them
abbrev pub boxes_in : Scale → ℕ → List BoxModel → List Piece
boxes_in scale within [] = closings within
boxes_in scale within (b ∷ bs) = next_box scale within b bs ++ boxes_in scale (min within b.depth + 1) bs

-- The beginning of a box, by whether it is a rest or a file, and the tag of a strip, by whether it is there.
use Rattle.std.proofs.Common.{ℕ, Bool, if◌then◌else◌, List, [], ◌∷◌, ◌++◌, codes}
use Rattle.lc_rows.specs.ShownRows.{number_in}
use Rattle.lc_picture.specs.{declared.scale.Scale.Scale, Boxes.BoxModel, Nested.{label, link, next_strip, title_of}, Pieces.{Piece, markup, share}}

abbrev pub opening_with : Scale → BoxModel → ℕ → ℕ → Bool → Bool → List Piece
opening_with scale b place strip rest file =
    (markup (codes "<div class=\"b e") ∷ share b.colour ∷ markup (codes "\" style=\"--n:") ∷ share (number_in scale.by b.sums)
    ∷ (if rest then markup (codes "\"><a title=\"others in ") ∷ []
    else if file then markup (codes "\"><a title=\"") ∷ []
    else link place))
    ++ (title_of scale b ++ label scale.by strip b)

abbrev pub strip_with : Bool → ℕ → List Piece
strip_with there n = if there then next_strip n else []

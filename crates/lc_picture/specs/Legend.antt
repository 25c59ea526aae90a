-- The legend of a page: the extensions that have colours of their own, with their numbers.
use Rattle.std.specs.Prelude.{ℕ, ◌+◌, List, [], ◌∷◌, ◌++◌, codes, take, Option, Some, None}
use Rattle.lc_rows.specs.{RowKeys.ShownRowModel, ShownRows.number_in}
use Rattle.lc_sheet.specs.declared.column.Number.{Number}
use Rattle.lc_text.specs.Visible.{visible_bytes}
use Rattle.lc_picture.specs.{Colours.shared_colour, Pieces.{Piece, count, markup, name, share}}

-- the text for an extension: a dot and its bytes, as a terminal shows them, or `-` for none
abbrev pub visible_extension : Option (List ℕ) → List ℕ
visible_extension None = codes "-"
visible_extension (Some e) = codes "." ++ visible_bytes e

-- an extension in its colour, with its number
abbrev pub legend_entry : Number → ℕ → ShownRowModel → List Piece
legend_entry by colour r =
    markup (codes "<span class=\"e") ∷ share colour ∷ markup (codes "\">") ∷ name (visible_extension r.key.tally.extension)
    ∷ markup (codes " ") ∷ count (number_in by r.sums) ∷ markup (codes "</span>\n") ∷ []

-- extensions, of which the first has this colour
abbrev pub legend_from : Number → ℕ → List ShownRowModel → List Piece
legend_from by colour [] = []
legend_from by colour (r ∷ rs) = legend_entry by colour r ++ legend_from by (colour + 1) rs

-- the extensions of the chart with colours of their own
abbrev pub legend : Number → List ShownRowModel → List Piece
legend by chart = legend_from by 0 (take shared_colour chart)

-- The colours of boxes. That of a directory is the colour of the extension with the largest number in it.
use Rattle.std.specs.Prelude.{ℕ, ◌+◌, nat_lt, Bool, false, if◌then◌else◌, List, [], ◌∷◌, max}
use Rattle.std.specs.List.{slice_index_or}
use Rattle.lc_rows.specs.{RowKeys.ShownRowModel, ShownRows.number_in}
use Rattle.lc_sheet.specs.declared.column.Number.{Number}
use Rattle.lc_walk.specs.Extension.{extension_of}
use Rattle.lc_picture.specs.{Boxes.{BoxModel, painted}, Colours.{colour_of, rest_colour, shared_colour}}

-- the colour of the extension with the largest number. Of equal numbers the first counts. `number` is the largest of the numbers before,
-- and `colour` goes with it
abbrev pub largest_colour : List ShownRowModel → Number → ℕ → ℕ → List ShownRowModel → ℕ
largest_colour chart by number colour [] = colour
largest_colour chart by number colour (k ∷ ks) =
    largest_colour chart by (max number (number_in by k.sums))
    (if nat_lt number (number_in by k.sums) then colour_of chart k.key.tally.extension else colour) ks

-- the colour of a box: that of all rests, that of the file's extension, or that of the directory's largest extension; the shared colour
-- where the directory has no number
abbrev pub box_colour : List ShownRowModel → Number → BoxModel → ℕ
box_colour chart by b =
    if b.is_rest then rest_colour
    else if b.is_file then colour_of chart (extension_of b.own_name)
    else largest_colour chart by 0 shared_colour b.kinds

-- boxes in their colours, of which the first has this place in a list that tells which boxes begin a strip
abbrev pub all_painted : List ShownRowModel → Number → List Bool → ℕ → List BoxModel → List BoxModel
all_painted chart by begins place [] = []
all_painted chart by begins place (b ∷ bs) =
    painted (box_colour chart by b) (slice_index_or begins place false) b ∷ all_painted chart by begins (place + 1) bs

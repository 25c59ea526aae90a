-- The rests of directories: what is right in a directory and has no box of its own has one box together, the last in the directory's box.
use Rattle.std.specs.Prelude.{ℕ, ◌+◌, ◌-◌, ◌==◌, ◌&&◌, Bool, true, false, nat_le, nat_lt, if◌then◌else◌, List, [], ◌∷◌, ◌++◌, codes, decimal}
use Rattle.lc_formats.specs.CellWords.{with_commas}
use Rattle.lc_rows.specs.ShownRows.{number_in}
use Rattle.lc_sheet.specs.declared.column.Number.{Number}
use Rattle.lc_text.specs.Visible.{visible_path}
use Rattle.lc_walk.specs.declared.tally.sums.Sums.{Sums}
use Rattle.lc_picture.specs.{declared.small_directories.SmallDirectories.SmallDirectories, Boxes.BoxModel, Colours.shared_colour}

abbrev pub minus : Sums → Sums → Sums
minus s t = record {
  files = s.files - t.files;
  lines = s.lines - t.lines;
  blank = s.blank - t.blank;
  bytes = s.bytes - t.bytes;
}

-- sums without those of the boxes right in a box of this depth. These are among the boxes that follow, before the next one that is no deeper
abbrev pub left_beside : ℕ → Sums → List BoxModel → Sums
left_beside depth s [] = s
left_beside depth s (b ∷ bs) =
    if nat_le b.depth depth then s else left_beside depth (if b.depth == depth + 1 then minus s b.sums else s) bs

-- the sums of the rest of a directory, whose box these boxes follow: those of the directory without those of the boxes right in it
abbrev pub rest_in : BoxModel → List BoxModel → Sums
rest_in b bs = left_beside b.depth b.sums bs

-- the box of the rest of a directory, which has these sums
abbrev pub rest_of : BoxModel → Sums → BoxModel
rest_of b rest = record {
  path = b.path;
  own_name = [];
  depth = b.depth + 1;
  colour = shared_colour;
  begins_strip = false;
  sums = rest;
  kinds = [];
  small = b.small;
  is_file = false;
  is_rest = true;
}

-- whether a box follows that is inside a box of this depth
abbrev pub holds_box : ℕ → List BoxModel → Bool
holds_box depth [] = false
holds_box depth (b ∷ bs) = nat_lt depth b.depth

-- whether the rest of a directory has a box: if it has a number, and if a box is inside the directory's box
abbrev pub has_rest : Number → BoxModel → List BoxModel → Bool
has_rest by b bs = holds_box b.depth bs && nat_le 1 (number_in by (rest_in b bs))

-- some boxes and one more, which comes after the first ones that are as deep or deeper
abbrev pub after_deeper : BoxModel → List BoxModel → List BoxModel
after_deeper x [] = x ∷ []
after_deeper x (b ∷ bs) = if nat_lt b.depth x.depth then x ∷ b ∷ bs else b ∷ after_deeper x bs

-- the boxes inside a directory's box and those after it, which are `bs` with their rests, and among them the box of its rest, if it has one
abbrev pub with_rest : Number → BoxModel → List BoxModel → List BoxModel → List BoxModel
with_rest by b bs made = if has_rest by b bs then after_deeper (rest_of b (rest_in b bs)) made else made

-- boxes that come depth first, with the rests of their directories
abbrev pub with_rests : Number → List BoxModel → List BoxModel
with_rests by [] = []
with_rests by (b ∷ bs) = b ∷ with_rest by b bs (with_rests by bs)

-- the words that follow a number of small directories
abbrev pub small_word : ℕ → List ℕ
small_word n = if n == 1 then codes " small directory" else codes " small directories"

-- the words for other files, where there are some beside small directories
abbrev pub others_word : Bool → List ℕ
others_word true = codes ", others"
others_word false = []

-- the name of a rest with this number: how many small directories are in it, if these have a number, and whether other files are in it
abbrev pub rest_name : SmallDirectories → ℕ → List ℕ
rest_name small rest =
    if small.number == 0 then codes "others"
    else with_commas (decimal small.count) ++ (small_word small.count ++ others_word (nat_lt small.number rest))

-- the name of a box, as terminals show it
abbrev pub shown_name : Number → BoxModel → List ℕ
shown_name by b = if b.is_rest then rest_name b.small (number_in by b.sums) else visible_path b.own_name

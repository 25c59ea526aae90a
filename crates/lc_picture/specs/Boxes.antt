-- The boxes of a tree of directories. The box of a directory has a box inside for each directory and each large file right in it, and one
-- for its rest: for what is right in it and has no box of its own. The number of a box is its share of the space.
use Rattle.std.specs.Prelude.{ℕ, ◌+◌, ◌/◌, ◌%◌, Bool, false, nat_le, if◌then◌else◌, List, [], ◌∷◌, max}
use Rattle.lc_rows.specs.{Directories.own_part, RowKeys.ShownRowModel, ShownRows.number_in}
use Rattle.lc_sheet.specs.declared.column.Number.{Number}
use Rattle.lc_walk.specs.declared.tally.sums.Sums.{Sums}
use Rattle.lc_picture.specs.{declared.small_directories.SmallDirectories.SmallDirectories, Colours.path_of}
use Rattle.lc_picture.specs.{Colours.{first_rows_of, rows_from, shared_colour}, Small.{row_level, small_in}}

-- a box: the path of its directory or file, the part of the path that is its name, how many boxes are around it, its colour, whether a strip
-- begins with it, the sums over the files in it and below it, the rows of its directory by extension, the small directories right in its
-- directory, and whether it is a file or the rest of a directory
pub record BoxModel : Type 0 where
  pub path : List ℕ
  pub own_name : List ℕ
  pub depth : ℕ
  pub colour : ℕ
  pub begins_strip : Bool
  pub sums : Sums
  pub kinds : List ShownRowModel
  pub small : SmallDirectories
  pub is_file : Bool
  pub is_rest : Bool

-- the box of a directory, in the colour that extensions share
abbrev pub box_of : ShownRowModel → List ShownRowModel → SmallDirectories → BoxModel
box_of r kinds small = record {
  path = path_of r;
  own_name = own_part (path_of r);
  depth = row_level r;
  colour = shared_colour;
  begins_strip = false;
  sums = r.sums;
  kinds = kinds;
  small = small;
  is_file = false;
  is_rest = false;
}

-- a box with another number of boxes around it, and another name
abbrev pub moved : ℕ → List ℕ → BoxModel → BoxModel
moved depth own b = record {
  path = b.path;
  own_name = own;
  depth = depth;
  colour = b.colour;
  begins_strip = b.begins_strip;
  sums = b.sums;
  kinds = b.kinds;
  small = b.small;
  is_file = b.is_file;
  is_rest = b.is_rest;
}

-- a box with a colour, and with or without the beginning of a strip
abbrev pub painted : ℕ → Bool → BoxModel → BoxModel
painted colour begins b = record {
  path = b.path;
  own_name = b.own_name;
  depth = b.depth;
  colour = colour;
  begins_strip = begins;
  sums = b.sums;
  kinds = b.kinds;
  small = b.small;
  is_file = b.is_file;
  is_rest = b.is_rest;
}

-- the least number for which a directory or a file has a box: one of so many parts of the total, rounded up, and not nothing
abbrev pub least_of : ℕ → ℕ → ℕ
least_of parts total = max (total / parts + (if nat_le 1 (total % parts) then 1 else 0)) 1

-- the boxes of the directories that are drawn, in the order of their rows, each with its rows by extension and with the small directories
-- right in it
abbrev pub drawn_boxes : Number → ℕ → List ShownRowModel → List ShownRowModel → List BoxModel
drawn_boxes by least kinds [] = []
drawn_boxes by least kinds (r ∷ rs) =
    if nat_le least (number_in by r.sums)
    then box_of r (first_rows_of (path_of r) (rows_from (path_of r) kinds)) (small_in by least (row_level r) rs)
    ∷ drawn_boxes by least (rows_from (path_of r) kinds) rs
    else drawn_boxes by least kinds rs

-- the boxes of a page, the first of which has the title of the page for its name
abbrev pub titled : List ℕ → List BoxModel → List BoxModel
titled text [] = []
titled text (b ∷ bs) = moved b.depth text b ∷ bs

-- The files that have boxes of their own, in the boxes of the directories that hold them.
use Rattle.std.specs.{Prelude.{ℕ, ◌+◌, Bool, true, false, nat_le, bytes_eq, List, [], ◌∷◌, ◌++◌, map}, List.filter}
use Rattle.lc_rows.specs.{Directories.{directory_of, name_of}, ShownFiles.file_number}
use Rattle.lc_sheet.specs.declared.column.Number.{Number}
use Rattle.lc_walk.specs.Sums.{one_file}
use Rattle.lc_picture.specs.{Boxes.{BoxModel, moved}, Colours.shared_colour, Small.no_directories}
use Rattle.lc_level.specs.Level.{FileLineModel}

-- a file with a box of its own: the directory that holds it, cut after n names, and its box
pub record FileBoxModel : Type 0 where
  pub parent : List ℕ
  pub drawn : BoxModel

-- whether the number of a file is at least the least number that is drawn, so that the file has a box
abbrev pub is_large : Number → ℕ → FileLineModel → Bool
is_large by least f = nat_le least (file_number by f)

-- the box of a file, which has so many boxes around it: its path, its name and its numbers
abbrev pub box_of_file : ℕ → FileLineModel → BoxModel
box_of_file depth f = record {
  path = f.path;
  own_name = name_of f.path;
  depth = depth;
  colour = shared_colour;
  begins_strip = false;
  sums = one_file f.count;
  kinds = [];
  small = no_directories;
  is_file = true;
  is_rest = false;
}

abbrev pub file_box : ℕ → FileLineModel → FileBoxModel
file_box n f = record { parent = directory_of n f.path; drawn = box_of_file 0 f }

-- the boxes of all files whose number is at least the least that is drawn
abbrev pub large_files : ℕ → Number → ℕ → List FileLineModel → List FileBoxModel
large_files n by least fs = map (file_box n) (filter (is_large by least) fs)

-- the boxes of the files that are right in this directory, which have so many boxes around them
abbrev pub files_in : List ℕ → ℕ → List FileBoxModel → List BoxModel
files_in directory depth fs =
    map (λ (f : FileBoxModel). moved depth f.drawn.own_name f.drawn)
    (filter (λ (f : FileBoxModel). bytes_eq directory f.parent) fs)

-- the boxes of directories, depth first, each with the boxes of the files right in its directory after it
abbrev pub with_files : List FileBoxModel → List BoxModel → List BoxModel
with_files fs [] = []
with_files fs (b ∷ bs) = b ∷ (files_in b.path (b.depth + 1) fs ++ with_files fs bs)

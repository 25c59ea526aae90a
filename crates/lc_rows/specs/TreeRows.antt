-- The rows of a tree of directories. The row of a directory has the sums over the files in the directory and below it.
use Rattle.std.specs.Prelude.{ℕ, ◌+◌, ◌==◌, Bool, false, bytes_eq, cond, min, List, [], ◌∷◌, map, Option, Some, None}
use Rattle.std.specs.{Cmp.Lexicographic.slice_cmp, List.{flat_map, range_with_len, Sorted.{IsPermutation, IsSorted}}, Option.option_cmp}
use Rattle.std.specs.{Ordering.{nat_cmp, on, then_cmp}, declared.cmp.Ordering.Ordering}
use Rattle.lc_glob.specs.Bytes.{slash}
use Rattle.lc_sheet.specs.declared.table_options.Columns.{Columns}
use Rattle.lc_rows.specs.{Directories.{above, directory_of, level_of, parent_of}, RowKeys.{RowKey, ShownRowModel, file_key_cmp, row_key}}
use Rattle.lc_rows.specs.ShownRows.{AreAddedUp, part_of_file}
use Rattle.lc_level.specs.Level.{FileLineModel}

-- whether a file is in a directory or below it: the directory that holds the file, cut after as many names, is this directory
abbrev pub is_below : List ℕ → List ℕ → Bool
is_below directory path = bytes_eq directory (directory_of (level_of directory) path)

-- whether a file is right in a directory of a tree whose directories are cut after n names
abbrev pub is_in : ℕ → List ℕ → List ℕ → Bool
is_in n directory path = bytes_eq directory (directory_of n path)

-- whether a directory is right in another; the top directory is in no other
abbrev pub is_child : List ℕ → Option (List ℕ) → Bool
is_child directory None = false
is_child directory (Some []) = false
is_child directory (Some (b ∷ bs)) = bytes_eq directory (above (b ∷ bs))

-- how many directories are above a file and below the top directory, if directories are cut after n names
abbrev pub levels_above : ℕ → List ℕ → ℕ
levels_above n path = min n (level_of (parent_of path))

-- what a file adds to each directory above it, from the top directory down to the directory that holds it
abbrev pub parts_above : ℕ → Columns → FileLineModel → List ShownRowModel
parts_above n by f = map (λ level. part_of_file by (Some level) f) (range_with_len 0 (levels_above n f.path + 1))

abbrev pub tree_parts : ℕ → Columns → List FileLineModel → List ShownRowModel
tree_parts n by fs = flat_map (parts_above n by) fs

-- the rank of a byte: a slash comes before all other bytes, so what is below a directory comes right after the directory
abbrev pub byte_place : ℕ → ℕ
byte_place b = cond (b == slash) 0 (b + 1)

abbrev pub path_cmp : List ℕ → List ℕ → Ordering
path_cmp = slice_cmp (on byte_place nat_cmp)

-- the order of the rows of a tree: by directory, depth first, and then by key
unfoldable pub depth_first_cmp : RowKey → RowKey → Ordering
depth_first_cmp = then_cmp (on (λ (k : RowKey). k.directory) (option_cmp path_cmp)) (on (λ (k : RowKey). k.key) file_key_cmp)

-- a row for each directory that has files in it or below it, cut after n names, and for each key of such files, with the sums over these
-- files, depth first
abbrev pub AreTreeRows : ℕ → Columns → List FileLineModel → List ShownRowModel → Type 0
AreTreeRows n by fs rows = (summed : List ShownRowModel) × AreAddedUp (tree_parts n by fs) summed × IsPermutation summed rows
    × IsSorted (on row_key depth_first_cmp) rows

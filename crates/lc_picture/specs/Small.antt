-- The directories that are too small for boxes of their own. One box shows all of them that are right in the same directory.
use Rattle.std.specs.{Prelude.{◌≡◌, ℕ, ◌+◌, ◌==◌, ◌&&◌, Bool, nat_le, nat_lt, if◌then◌else◌, List, [], ◌∷◌, length}, List.filter}
use Rattle.std.specs.List.{slice_index_or, sum_by}
use Rattle.lc_rows.specs.{Directories.level_of, RowKeys.ShownRowModel, ShownRows.number_in}
use Rattle.lc_sheet.specs.declared.column.Number.{Number}
use Rattle.lc_picture.specs.{declared.small_directories.SmallDirectories.SmallDirectories, Colours.path_of}

-- how many directories are above the directory of a row
abbrev pub row_level : ShownRowModel → ℕ
row_level r = level_of (path_of r)

-- the rows of the directories below a directory of this depth, of the rows that follow it depth first: all before the next that is no
-- deeper
abbrev pub rows_below : ℕ → List ShownRowModel → List ShownRowModel
rows_below depth [] = []
rows_below depth (r ∷ rs) = if nat_le (row_level r) depth then [] else r ∷ rows_below depth rs

-- whether a directory below a directory of this depth is right in it, and is small: its number is less than the least that is drawn
abbrev pub is_small_in : Number → ℕ → ℕ → ShownRowModel → Bool
is_small_in by least depth r = (row_level r == depth + 1) && nat_lt (number_in by r.sums) least

-- the rows of the small directories right in a directory of this depth, of the rows that follow it depth first
abbrev pub small_rows : Number → ℕ → ℕ → List ShownRowModel → List ShownRowModel
small_rows by least depth rs = filter (is_small_in by least depth) (rows_below depth rs)

-- these directories together: how many they are, and the sum of their numbers
abbrev pub together : Number → List ShownRowModel → SmallDirectories
together by rs = record { count = length rs; number = sum_by (λ r. number_in by r.sums) rs }

-- the small directories right in a directory of this depth, together
abbrev pub small_in : Number → ℕ → ℕ → List ShownRowModel → SmallDirectories
small_in by least depth rs = together by (small_rows by least depth rs)

-- the small directories right in each directory
abbrev pub smalls_of : Number → ℕ → List ShownRowModel → List SmallDirectories
smalls_of by least [] = []
smalls_of by least (r ∷ rs) = small_in by least (row_level r) rs ∷ smalls_of by least rs

-- ---- while directories are gone over from the last to the first

abbrev pub no_directories : SmallDirectories
no_directories = record { count = 0; number = 0 }

abbrev pub one_more : ℕ → SmallDirectories → SmallDirectories
one_more number s = record { count = s.count + 1; number = s.number + number }

-- a list has, at each depth, the small directories that are right in a directory of that depth before these rows, and are among these rows
abbrev pub ArePending : Number → ℕ → List ShownRowModel → List SmallDirectories → Type 0
ArePending by least rs pending = (depth : ℕ) → slice_index_or pending depth no_directories ≡ small_in by least depth rs

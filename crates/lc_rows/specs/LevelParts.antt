-- What the row of a directory adds to the directories above it.
use Rattle.std.specs.Prelude.{◌≡◌, ℕ, ◌+◌, ◌-◌, nat_le, false, min, suc, zero, Bool, List, [], ◌∷◌, map, Option, Some, None, option_map}
use Rattle.std.specs.List.{range_with_len}
use Rattle.lc_rows.specs.Directories.{first_names, level_of}
use Rattle.lc_rows.specs.RowKeys.{RowKey, ShownRowModel, has_within, row_key, row_with, rows_within, sums_of_shown}

-- the key of a row, with its directory cut after this many names
abbrev pub key_at : ℕ → RowKey → RowKey
key_at level k = record { directory = option_map (first_names level) k.directory; key = k.key }

-- how many directories are above the directory of a row; 0 if the row has no directory
abbrev pub level_in : Option (List ℕ) → ℕ
level_in None = 0
level_in (Some directory) = level_of directory

-- the level of a key's directory in a tree whose directories are cut after n names
abbrev pub level_to : ℕ → RowKey → ℕ
level_to n k = min n (level_in k.directory)

-- how many levels a row is above the deepest directories that there can be
abbrev pub height : ℕ → ShownRowModel → ℕ
height n r = n - level_to n (row_key r)

-- what a row adds to a directory above its own: the row, with its directory cut after this many names
abbrev pub row_at : ℕ → ShownRowModel → ShownRowModel
row_at level r = row_with (key_at level (row_key r)) r.sums

-- what a row adds to each directory above it, from the top down to its own
abbrev pub level_parts : ℕ → ShownRowModel → List ShownRowModel
level_parts n r = map (λ level. row_at level r) (range_with_len 0 (level_to n (row_key r) + 1))

-- what a row adds to its own directory
abbrev pub own_row : ℕ → ShownRowModel → ShownRowModel
own_row n r = row_at (level_to n (row_key r)) r

-- what a row with this many directories above its own adds to the directory right above its own; no directory is above the top directory
abbrev pub next_at : ℕ → ShownRowModel → List ShownRowModel
next_at zero r = []
next_at (suc level) r = row_at level r ∷ []

abbrev pub next_above : ℕ → ShownRowModel → List ShownRowModel
next_above n r = next_at (level_to n (row_key r)) r

-- no row has this many directories above its own, or more
abbrev pub AreBelow : ℕ → ℕ → List ShownRowModel → Type 0
AreBelow n level rs = has_within (λ k. nat_le level (level_to n k)) rs ≡ false

-- for each set of keys, rows and parts have the same sums, and some row has a key of the set if some part has
pub record HaveSumsOf (parts rows : List ShownRowModel) : Type 0 where
  pub sums : (keys : RowKey → Bool) → sums_of_shown (rows_within keys rows) ≡ sums_of_shown (rows_within keys parts)
  pub present : (keys : RowKey → Bool) → has_within keys rows ≡ has_within keys parts

-- The rows of a tally.
use Rattle.std.specs.{Prelude.{◌≡◌, ◌<◌, Bool, cond, List, [], ◌∷◌, ◌++◌, map, All}, List.{filter, sum_by, list_any}}
use Rattle.std.specs.List.Sorted.{IsStrictlySortedBy}
use Rattle.lc_walk.specs.{Key.{Key, key_cmp, same_key}, Sums.{plus, IsInRange}, declared.tally.sums.Sums.Sums}

-- a key, and the sums over some files that have it
pub record TallyRowModel : Type 0 where
  pub key : Key
  pub sums : Sums

-- the row of a key with these sums
abbrev pub row_with : Key → Sums → TallyRowModel
row_with k s = record { key = k; sums = s }

-- the sums over all rows
abbrev pub sums_of_rows : List TallyRowModel → Sums
sums_of_rows rs = record {
  files = sum_by (λ r. r.sums.files) rs;
  lines = sum_by (λ r. r.sums.lines) rs;
  blank = sum_by (λ r. r.sums.blank) rs;
  bytes = sum_by (λ r. r.sums.bytes) rs;
}

-- the rows that have this key: one or none if the rows are in the strict order of their keys
abbrev pub rows_with : Key → List TallyRowModel → List TallyRowModel
rows_with k rs = filter (λ r. same_key k r.key) rs

-- whether a key has a row
abbrev pub has_row : Key → List TallyRowModel → Bool
has_row k rs = list_any (λ r. same_key k r.key) rs

-- the rows are in the strict order of their keys
abbrev pub IsInOrder : List TallyRowModel → Type 0
IsInOrder rs = IsStrictlySortedBy key_cmp (map (λ r. r.key) rs)

-- for each key, old and new rows have the same sums; and each new row has a file if each old one has
pub record HasSumsOf (old new : List TallyRowModel) : Type 0 where
  pub sums : (k : Key) → sums_of_rows (rows_with k new) ≡ sums_of_rows (rows_with k old)
  pub filled : All (λ r. 0 < r.sums.files) old → All (λ r. 0 < r.sums.files) new

-- from the old rows to the new ones, the sums of one key gain s
abbrev pub Gains : List TallyRowModel → List TallyRowModel → Key → Sums → Type 0
Gains old new k s = HasSumsOf (old ++ row_with k s ∷ []) new

-- `added` has one row for each key that some row of `rs` has, with the sums over the rows of this key, in the order of keys
pub record AddsUp (rs added : List TallyRowModel) : Type 0 where
  pub same : HasSumsOf rs added
  pub order : IsInOrder added

-- if two rows have one key, the sums of the row `last` gain those of the row `row`
pub record IsAbsorbed (row last : TallyRowModel) (absorbed : Bool) (row_after last_after : TallyRowModel) : Type 0 where
  pub test : absorbed ≡ same_key row.key last.key
  pub lent : row_after ≡ row
  pub key : last_after.key ≡ last.key
  pub sums : IsInRange (plus last.sums row.sums) → last_after.sums ≡ cond absorbed (plus last.sums row.sums) last.sums

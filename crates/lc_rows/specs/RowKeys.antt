-- The rows that a table shows, and their keys.
use Rattle.std.specs.{Prelude.{ℕ, Bool, List, [], map, Option}, List.{filter, list_any, sum_by, Sorted.IsStrictlySortedBy}}
use Rattle.std.specs.{Cmp.Lexicographic.slice_cmp, Option.option_cmp, Ordering.{eq_by_cmp, nat_cmp, on, then_cmp}}
use Rattle.std.specs.declared.cmp.Ordering.{Ordering}
use Rattle.lc_rules.specs.Attributes.{StateModel, set, unset, value, unspecified}
use Rattle.lc_tree.specs.ByteOrder.{bytes_cmp}
use Rattle.lc_walk.specs.{Key.{Key, key_cmp}, declared.tally.sums.Sums.Sums}

-- the key of a file: the states of the attributes that were asked for, and its key in a tally
pub record FileKey : Type 0 where
  pub attributes : List StateModel
  pub tally : Key

-- what the files of a row have in common: their directory, if rows are by directory, and their key
pub record RowKey : Type 0 where
  pub directory : Option (List ℕ)
  pub key : FileKey

-- a row that a table shows: the sums over some files that have a directory and a key in common
pub record ShownRowModel : Type 0 where
  pub directory : Option (List ℕ)
  pub key : FileKey
  pub sums : Sums

abbrev pub row_key : ShownRowModel → RowKey
row_key r = record { directory = r.directory; key = r.key }

abbrev pub row_with : RowKey → Sums → ShownRowModel
row_with k s = record { directory = k.directory; key = k.key; sums = s }

-- the order of directories, by the bytes of their paths
abbrev pub by_directory : RowKey → RowKey → Ordering
by_directory = on (λ (k : RowKey). k.directory) (option_cmp bytes_cmp)

-- the order of states: unspecified, set, unset, and then values
abbrev pub state_place : StateModel → ℕ
state_place unspecified = 0
state_place set = 1
state_place unset = 2
state_place (value bytes) = 3

-- the bytes by which values are in order
abbrev pub state_bytes : StateModel → List ℕ
state_bytes (value bytes) = bytes
state_bytes other = []

abbrev pub state_cmp : StateModel → StateModel → Ordering
state_cmp = then_cmp (on state_place nat_cmp) (on state_bytes bytes_cmp)

-- the order of files' keys: by the attributes, and then by the key in a tally
unfoldable pub file_key_cmp : FileKey → FileKey → Ordering
file_key_cmp = then_cmp (on (λ (k : FileKey). k.attributes) (slice_cmp state_cmp)) (on (λ (k : FileKey). k.tally) key_cmp)

-- whether two keys of files are the same
abbrev pub same_file_key : FileKey → FileKey → Bool
same_file_key = eq_by_cmp file_key_cmp

-- the order of rows: by directory, and then by key
unfoldable pub row_key_cmp : RowKey → RowKey → Ordering
row_key_cmp = then_cmp by_directory (on (λ (k : RowKey). k.key) file_key_cmp)

-- whether two keys are the same
abbrev pub same_row_key : RowKey → RowKey → Bool
same_row_key = eq_by_cmp row_key_cmp

-- the keys rise, so no two rows have the same key
abbrev pub AreInRowOrder : List ShownRowModel → Type 0
AreInRowOrder rs = IsStrictlySortedBy row_key_cmp (map row_key rs)

-- the sums over all elements of a list
abbrev pub sums_over : {X : Type 0} → (X → Sums) → List X → Sums
sums_over sums xs = record {
  files = sum_by (λ x. (sums x).files) xs;
  lines = sum_by (λ x. (sums x).lines) xs;
  blank = sum_by (λ x. (sums x).blank) xs;
  bytes = sum_by (λ x. (sums x).bytes) xs;
}

-- the sums over all rows
abbrev pub sums_of_shown : List ShownRowModel → Sums
sums_of_shown rs = sums_over (λ (r : ShownRowModel). r.sums) rs

-- the rows whose keys are in a set
abbrev pub rows_within : (RowKey → Bool) → List ShownRowModel → List ShownRowModel
rows_within keys rs = filter (λ r. keys (row_key r)) rs

-- whether the key of some row is in a set
abbrev pub has_within : (RowKey → Bool) → List ShownRowModel → Bool
has_within keys rs = list_any (λ r. keys (row_key r)) rs

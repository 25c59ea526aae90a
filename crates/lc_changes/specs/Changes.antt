-- The rows of a comparison: for each key the sums of both reports.
use Rattle.std.specs.Prelude.{◌≡◌, ℕ, ◌+◌, ◌-◌, ◌==◌, Bool, ◌&&◌, not, if◌then◌else◌, List, filter, Option, Some, None}
use Rattle.std.specs.{List.Sorted.{IsPermutation, IsSorted}, Ordering.{nat_cmp, on, then_cmp}, declared.cmp.Ordering.Ordering}
use Rattle.lc_changes.specs.{Merged.AreMerged, declared.changed_row.ChangedRow.ChangedRow}
use Rattle.lc_rows.specs.{RowKeys.{RowKey, ShownRowModel, row_key, row_key_cmp, sums_of_shown, sums_over}, ShownRows.number_in}
use Rattle.lc_sheet.specs.declared.column.Number.{Number}
use Rattle.lc_walk.specs.declared.tally.sums.Sums.{Sums}

abbrev pub changed_key : ChangedRow → RowKey
changed_key r = row_key r.new_row

-- a row is made of parts of both reports: it has the sums over them
abbrev pub IsRowOf : List ShownRowModel → List ShownRowModel → ChangedRow → Type 0
IsRowOf olds news r = (r.old_sums ≡ sums_of_shown olds) × (r.new_row.sums ≡ sums_of_shown news)

-- for each key that the parts of some report have, a row with the sums of this key in both reports, in the order of keys
abbrev pub AreCompared : List ShownRowModel → List ShownRowModel → List ChangedRow → Type 0
AreCompared = AreMerged row_key row_key_cmp changed_key IsRowOf

-- ---- what changed

abbrev pub are_same_sums : Sums → Sums → Bool
are_same_sums a b = a.files == b.files && a.lines == b.lines && a.blank == b.blank && a.bytes == b.bytes

-- whether any number of a row changed
abbrev pub differs : ChangedRow → Bool
differs r = not (are_same_sums r.old_sums r.new_row.sums)

-- the rows that are shown: all of them, or those in which a number changed
abbrev pub kept_rows : Bool → List ChangedRow → List ChangedRow
kept_rows all rows = if all then rows else filter differs rows

-- ---- their order

-- the difference of two numbers without its sign
abbrev pub distance : ℕ → ℕ → ℕ
distance a b = (a - b) + (b - a)

abbrev pub row_change : Number → ChangedRow → ℕ
row_change n r = distance (number_in n r.old_sums) (number_in n r.new_row.sums)

-- the order of lines by the change of a number, largest first, and of lines of equal changes in another order
abbrev pub largest_first : {L : Type 0} → (Number → L → ℕ) → (L → L → Ordering) → Number → L → L → Ordering
largest_first change order n = then_cmp (λ a b. nat_cmp (change n b) (change n a)) order

-- lines in the given order, or sorted by a number
abbrev pub AreSortedBy : {L : Type 0} → (Number → L → L → Ordering) → Option Number → List L → List L → Type 0
AreSortedBy cmp None lines sorted = sorted ≡ lines
AreSortedBy cmp (Some n) lines sorted = IsPermutation lines sorted × IsSorted (cmp n) sorted

-- the largest change first, and rows of equal changes by their keys
abbrev pub change_cmp : Number → ChangedRow → ChangedRow → Ordering
change_cmp = largest_first row_change (on changed_key row_key_cmp)

abbrev pub AreChangesSorted : Option Number → List ChangedRow → List ChangedRow → Type 0
AreChangesSorted = AreSortedBy change_cmp

-- ---- their sums

abbrev pub old_sums_of : List ChangedRow → Sums
old_sums_of rows = sums_over (λ (r : ChangedRow). r.old_sums) rows

abbrev pub new_sums_of : List ChangedRow → Sums
new_sums_of rows = sums_over (λ (r : ChangedRow). r.new_row.sums) rows

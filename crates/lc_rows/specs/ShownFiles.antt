-- The files that a table lists, sorted.
use Rattle.std.specs.{Prelude.{◌≡◌, ℕ, List, Option, Some, None}, List.Sorted.{IsPermutation, IsSorted}, Ordering.{nat_cmp, on, then_cmp}}
use Rattle.std.specs.declared.cmp.Ordering.{Ordering}
use Rattle.lc_tree.specs.ByteOrder.{bytes_cmp}
use Rattle.lc_sheet.specs.declared.column.Number.{Number}
use Rattle.lc_walk.specs.Sums.{one_file}
use Rattle.lc_rows.specs.ShownRows.{number_in}
use Rattle.lc_level.specs.Level.{FileLineModel}

-- the number of a file that files are sorted by; the number of files is 1
abbrev pub file_number : Number → FileLineModel → ℕ
file_number n f = number_in n (one_file f.count)

-- the order of files by a number, largest first
abbrev pub by_file_number : Number → FileLineModel → FileLineModel → Ordering
by_file_number n a b = nat_cmp (file_number n b) (file_number n a)

-- the largest number first, and files of equal numbers by their paths
abbrev pub file_cmp : Number → FileLineModel → FileLineModel → Ordering
file_cmp n = then_cmp (by_file_number n) (on (λ (f : FileLineModel). f.path) bytes_cmp)

-- the files in the order of the report, or sorted by a number
abbrev pub AreFilesSorted : Option Number → List FileLineModel → List FileLineModel → Type 0
AreFilesSorted None fs sorted = sorted ≡ fs
AreFilesSorted (Some n) fs sorted = IsPermutation fs sorted × IsSorted (file_cmp n) sorted

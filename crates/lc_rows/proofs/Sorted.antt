-- Rows are in a total order by a number and their keys, and files by a number and their paths.
use Rattle.std.specs.{Cmp.{IsTotalOrder, IsStrictWeakOrder, Lexicographic.options_total}, Ordering.is_lt}
use Rattle.std.proofs.lemmas.Cmp.{back_total, lists_total, nat_cmp_total, nat_list_cmp_total, on_total, then_total}
use Rattle.std.proofs.lemmas.List.Sorted.{ranks_by}
use Rattle.lc_sheet.specs.declared.column.Number.{Number}
use Rattle.lc_rows.specs.{RowKeys.{RowKey, ShownRowModel, row_key}, ShownFiles.{file_cmp, file_number}, ShownRows.{number_in, row_cmp}}
use Rattle.lc_rows.specs.TreeRows.{byte_place, depth_first_cmp}
use Rattle.lc_rows.proofs.SameKeys.{file_key_cmp_total, row_key_cmp_total}
use Rattle.lc_level.specs.Level.{FileLineModel}

row_cmp_total : (n : Number) → IsTotalOrder (row_cmp n)
row_cmp_total n =
    then_total (on_total (λ (r : ShownRowModel). number_in n r.sums) (back_total nat_cmp_total)) (on_total row_key row_key_cmp_total)

-- so rows are sorted by it
pub rows_rank : (n : Number) → IsStrictWeakOrder (λ (a : ShownRowModel) (b : ShownRowModel). is_lt (row_cmp n a b))
rows_rank n = ranks_by (row_cmp_total n) (λ (r : ShownRowModel). r)

file_cmp_total : (n : Number) → IsTotalOrder (file_cmp n)
file_cmp_total n =
    then_total (on_total (λ (f : FileLineModel). file_number n f) (back_total nat_cmp_total))
    (on_total (λ (f : FileLineModel). f.path) nat_list_cmp_total)

-- and files by theirs
pub files_rank : (n : Number) → IsStrictWeakOrder (λ (a : FileLineModel) (b : FileLineModel). is_lt (file_cmp n a b))
files_rank n = ranks_by (file_cmp_total n) (λ (f : FileLineModel). f)

-- rows of a tree are in a total order by their directories, depth first, and their keys
pub depth_first_cmp_total : IsTotalOrder depth_first_cmp
unfolding depth_first_cmp
depth_first_cmp_total =
    then_total (on_total (λ (k : RowKey). k.directory) (options_total (lists_total (on_total byte_place nat_cmp_total))))
    (on_total (λ (k : RowKey). k.key) file_key_cmp_total)

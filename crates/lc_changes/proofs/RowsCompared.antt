-- Rows that are compared are those of tables and those of the parts that tables add up.
use Rattle.std.proofs.{Common.{arith, ◌≡◌, Bool, List, [], ◌∷◌, map, ◌∙◌, zero-add}, lemmas.Grind.common_steps}
use Rattle.std.specs.{List.{AllByRecursion, Sorted.IsStrictlySortedBy}, Ordering.on, declared.cmp.Ordering.TheVariants.Less}
use Rattle.lc_changes.proofs.Merging.{merged_as}
use Rattle.lc_changes.specs.{Changes.{AreCompared, IsRowOf, changed_key}, declared.changed_row.ChangedRow.ChangedRow}
use Rattle.lc_level.specs.Level.{FileLineModel}
use Rattle.lc_rows.specs.{RowKeys.{RowKey, ShownRowModel, AreInRowOrder, has_within, row_key, row_key_cmp, rows_within, same_row_key}}
use Rattle.lc_rows.specs.{RowKeys.sums_of_shown, ShownRows.{AreAddedUp, parts_of}}
use Rattle.lc_sheet.specs.declared.table_options.Columns.{Columns}
use Rattle.lc_walk.proofs.RowSums.{same_sums}
use Rattle.lc_walk.specs.TallyRows.{TallyRowModel}

pub sums_of_one : (r : ShownRowModel) → sums_of_shown (r ∷ []) ≡ r.sums
sums_of_one r = same_sums _ _ (zero-add _) (zero-add _) (zero-add _) (zero-add _)

-- the rows of two lists have the same keys, and the same sums over each set of keys
pub record AddUpAlike (xs ys : List ShownRowModel) : Type 0 where
  pub sums : (keys : RowKey → Bool) → sums_of_shown (rows_within keys xs) ≡ sums_of_shown (rows_within keys ys)
  pub present : (keys : RowKey → Bool) → has_within keys xs ≡ has_within keys ys

pub compared_as : (olds news olds_as news_as : List ShownRowModel) (rows : List ChangedRow) → AddUpAlike olds olds_as
    → AddUpAlike news news_as → AreCompared olds news rows → AreCompared olds_as news_as rows
compared_as olds news olds_as news_as rows old new =
    merged_as row_key row_key_cmp changed_key IsRowOf olds news olds_as news_as rows
    (λ r is. (is.0 ∙ old.sums (same_row_key (changed_key r)), is.1 ∙ new.sums (same_row_key (changed_key r)))) old.present new.present

-- the keys of rows rise
later_rows : (r : ShownRowModel) (rs : List ShownRowModel) → AllByRecursion (λ k. row_key_cmp (row_key r) k ≡ Less) (map row_key rs)
    → AllByRecursion (λ x. on row_key row_key_cmp r x ≡ Less) rs
later_rows r [] later = tt
later_rows r (x ∷ xs) later = (later.0, later_rows r xs later.1)

pub rows_rise : (rs : List ShownRowModel) → AreInRowOrder rs → IsStrictlySortedBy (on row_key row_key_cmp) rs
unfolding IsStrictlySortedBy
rows_rise [] order = tt
rows_rise (r ∷ rs) order = (later_rows r rs order.0, rows_rise rs order.1)

-- the parts and rows of a report, under other names
pub added_as : (by : Columns) (rs rs_is : List TallyRowModel) (fs fs_is : List FileLineModel) (rows rows_is : List ShownRowModel)
    → rs ≡ rs_is → fs ≡ fs_is → rows_is ≡ rows → AreAddedUp (parts_of by rs fs) rows → AddUpAlike rows_is (parts_of by rs_is fs_is)
added_as by rs rs_is fs fs_is rows rows_is same_rs same_fs same_rows adds_up = grind (arith, common_steps)

use Rattle.std.proofs.Common.{List, subst, sym}
use Rattle.std.specs.{List.Sorted.IsStrictlySortedBy, Ordering.on}
use Rattle.lc_changes.proofs.RowsCompared.{added_as, compared_as, rows_rise}
use Rattle.lc_rows.specs.{RowKeys.{ShownRowModel, row_key, row_key_cmp}, ShownRows.parts_of}
use Rattle.lc_changes.proofs.rows.compared_rows.Goals as goal

abbrev Rise : List ShownRowModel → Type 0
Rise = IsStrictlySortedBy (on row_key row_key_cmp)

pub merged-requires : goal.merged-requires
merged-requires c = record {
  olds = subst Rise (sym c.deref-5.ensures.value) (rows_rise _ c.in_ok-olds.ensures.order);
  news = subst Rise (sym c.deref-6.ensures.value) (rows_rise _ c.in_ok-news.ensures.order);
}

pub returns : goal.returns
returns c =
    let by = c.args.by in
    let old = c.args.old.now in
    let new = c.args.new.now in
    compared_as c.deref-5.result.now c.deref-6.result.now (parts_of by old.rows.items old.files.items)
    (parts_of by new.rows.items new.files.items) c.in_ok-rows.rows.items
    (added_as by _ _ _ _ _ _ c.deref.ensures.value c.deref-2.ensures.value c.deref-5.ensures.value c.in_ok-olds.ensures)
    (added_as by _ _ _ _ _ _ c.deref-3.ensures.value c.deref-4.ensures.value c.deref-6.ensures.value c.in_ok-news.ensures)
    c.in_ok-rows.ensures

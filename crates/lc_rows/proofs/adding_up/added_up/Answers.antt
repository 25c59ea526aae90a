use Rattle.std.proofs.{Common.{rules, subst, sym, List}, lemmas.{Fn.always_returns_same, List.Sorted.ranks_by}}
use Rattle.std.specs.{List.Sorted.IsSortedByKey, Ordering.is_lt}
use Rattle.lc_rows.proofs.{Folding.added_sorted, SameKeys.row_key_cmp_total}
use Rattle.lc_rows.specs.{RowKeys.{ShownRowModel, row_key, row_key_cmp}, ShownRows.AreAddedUp}
use Rattle.lc_rows.proofs.adding_up.added_up.Goals as goal

pub added_in_order-requires : goal.added_in_order-requires
added_in_order-requires c =
    subst (IsSortedByKey row_key row_key_cmp) (sym c.deref.ensures.value)
    (c.sort_unstable_by.ensures.sorted (λ (a : ShownRowModel) (b : ShownRowModel). is_lt (row_key_cmp (row_key a) (row_key b)))
    (ranks_by row_key_cmp_total row_key) (always_returns_same _ _ _ (λ a r q k. search rules)))

pub returns : goal.returns
returns c =
    added_sorted c.args.parts.items c.sort_unstable_by.new.self.items c.in_ok-rows.rows.items c.sort_unstable_by.ensures.permutation
    (subst (λ (ps : List ShownRowModel). AreAddedUp ps c.in_ok-rows.rows.items) c.deref.ensures.value c.in_ok-rows.ensures)

use Rattle.std.proofs.{Common.rules, lemmas.{Cmp.on_total, Fn.always_returns_same}}
use Rattle.std.specs.Ordering.{is_lt, on}
use Rattle.lc_changes.{proofs.Orders.ranks, specs.Changes.{change_cmp, changed_key, row_change}}
use Rattle.lc_rows.{proofs.SameKeys.row_key_cmp_total, specs.RowKeys.row_key_cmp}
use Rattle.lc_changes.proofs.sorting.sort_rows.Goals as goal

pub returns : goal.returns
returns c =
    rw c.in-Some.is (
      c.sort_unstable_by.ensures.permutation,
      c.sort_unstable_by.ensures.sorted (λ a b. is_lt (change_cmp c.in-Some.number a b))
          (ranks row_change (on changed_key row_key_cmp) (on_total changed_key row_key_cmp_total) c.in-Some.number)
          (always_returns_same _ _ _ (λ a r q k. search rules)),
    )

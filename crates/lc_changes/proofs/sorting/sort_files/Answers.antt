use Rattle.std.proofs.{Common.rules, lemmas.{Cmp.{nat_list_cmp_total, on_total}, Fn.always_returns_same}}
use Rattle.std.specs.Ordering.{is_lt, on}
use Rattle.lc_changes.{proofs.Orders.ranks, specs.FileChanges.{changed_path, file_change, file_change_cmp}}
use Rattle.lc_tree.specs.ByteOrder.{bytes_cmp}
use Rattle.lc_changes.proofs.sorting.sort_files.Goals as goal

pub returns : goal.returns
returns c =
    rw c.in-Some.is (
      c.sort_unstable_by.ensures.permutation,
      c.sort_unstable_by.ensures.sorted (λ a b. is_lt (file_change_cmp c.in-Some.number a b))
          (ranks file_change (on changed_path bytes_cmp) (on_total changed_path nat_list_cmp_total) c.in-Some.number)
          (always_returns_same _ _ _ (λ a r q k. search rules)),
    )

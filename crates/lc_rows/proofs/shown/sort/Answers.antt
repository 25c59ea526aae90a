use Rattle.std.proofs.{Common.rules, lemmas.Fn.always_returns_same}
use Rattle.std.specs.Ordering.{is_lt}
use Rattle.lc_rows.specs.{RowKeys.ShownRowModel, ShownRows.row_cmp}
use Rattle.lc_rows.proofs.Sorted.{rows_rank}
use Rattle.lc_rows.proofs.shown.sort.Goals as goal

pub returns-clause-order : goal.returns-clause-order
returns-clause-order c =
    c.sort_unstable_by.ensures.sorted (λ (a : ShownRowModel) (b : ShownRowModel). is_lt (row_cmp c.args.by a b))
    (rows_rank c.args.by) (always_returns_same _ _ _ (λ a r q k. search rules))

use Rattle.std.proofs.{Common.{List, ℕ, rules}, lemmas.Fn.always_returns_same}
use Rattle.std.specs.Ordering.{is_lt}
use Rattle.lc_tree.proofs.Sorting.{paths_rank}
use Rattle.lc_tree.specs.ByteOrder.{bytes_cmp}
use Rattle.lc_reports.proofs.paths.sort.Goals as goal

pub returns-clause-order : goal.returns-clause-order
returns-clause-order c =
    c.in_ok-sort_by.ensures.sorted (λ x y. is_lt (bytes_cmp x y)) (paths_rank (λ (path : List ℕ). path))
    (always_returns_same _ _ _ (λ a r q k. search rules))

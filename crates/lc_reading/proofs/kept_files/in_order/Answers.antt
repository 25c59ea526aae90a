use Rattle.std.proofs.{Common.rules, lemmas.Fn.always_returns_same}
use Rattle.std.specs.Ordering.{is_lt}
use Rattle.lc_tree.specs.ByteOrder.{bytes_cmp}
use Rattle.lc_tree.proofs.Sorting.{paths_rank}
use Rattle.lc_reading.proofs.kept_files.in_order.Goals as goal

pub returns-clause-order : goal.returns-clause-order
returns-clause-order g c =
    c.in_ok-sort_by.ensures.sorted (λ x y. is_lt (bytes_cmp (g.L.Line.path_of x) (g.L.Line.path_of y)))
    (paths_rank g.L.Line.path_of) (always_returns_same _ _ _ (λ a r q k. search rules))

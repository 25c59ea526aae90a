use Rattle.std.proofs.{Common.rules, lemmas.Fn.always_returns_same}
use Rattle.std.specs.Ordering.{is_lt}
use Rattle.lc_program.specs.Nested.{Place}
use Rattle.lc_tree.proofs.Sorting.{paths_rank}
use Rattle.lc_tree.specs.ByteOrder.{bytes_cmp}
use Rattle.lc_program.proofs.nested.sort.Goals as goal

pub returns-clause-order : goal.returns-clause-order
returns-clause-order c =
    c.sort_unstable_by.ensures.sorted (λ x y. is_lt (bytes_cmp x.path y.path)) (paths_rank (λ (p : Place). p.path))
    (always_returns_same _ _ _ (λ a r q k. search rules))

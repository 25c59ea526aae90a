use Rattle.std.proofs.{Common.rules, lemmas.{Fn.always_returns_same, List.Sorted.ranks_by}}
use Rattle.std.specs.{Cmp.Lexicographic.slice_cmp, Ordering.is_lt}
use Rattle.lc_picture.specs.Places.{PlacedModel, place_cmp}
use Rattle.lc_picture.proofs.Falling.{branches_total}
use Rattle.lc_picture.proofs.largest_first.sort.Goals as goal

pub returns-clause-order : goal.returns-clause-order
returns-clause-order c =
    c.sort_unstable_by.ensures.sorted (λ (a : PlacedModel) (b : PlacedModel). is_lt (slice_cmp place_cmp a.branch b.branch))
    (ranks_by branches_total (λ (p : PlacedModel). p.branch)) (always_returns_same _ _ _ (λ a r q k. search rules))

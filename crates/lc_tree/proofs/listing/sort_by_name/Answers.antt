use Rattle.std.proofs.{Common.rules, lemmas.Fn.always_returns_same}
use Rattle.std.specs.Ordering.{is_lt}
use Rattle.lc_tree.specs.Listing.{EntryModel, by_name}
use Rattle.lc_tree.proofs.Sorting.{paths_rank}
use Rattle.lc_tree.proofs.listing.sort_by_name.Goals as goal

pub returns-clause-order : goal.returns-clause-order
returns-clause-order c =
    c.sort_unstable_by.ensures.sorted (λ (x : EntryModel) (y : EntryModel). is_lt (by_name x y))
    (paths_rank (λ (e : EntryModel). e.name)) (always_returns_same _ _ _ (λ a r q k. search rules))

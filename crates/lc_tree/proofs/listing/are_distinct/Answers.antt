use Rattle.std.proofs.{Common.rules, lemmas.Fn.always_returns_same}
use Rattle.std.specs.Ordering.{is_lt}
use Rattle.lc_tree.specs.Listing.{EntryModel, by_name}
use Rattle.lc_tree.proofs.Sorting.{order_or_twice}
use Rattle.lc_tree.proofs.listing.are_distinct.Goals as goal

pub returns : goal.returns
returns c =
    order_or_twice (λ (e : EntryModel). e.name) c.args.entries.now c.is_sorted_by.result
    (c.is_sorted_by.ensures.cases (λ (x : EntryModel) (y : EntryModel). is_lt (by_name x y))
    (always_returns_same _ _ _ (λ a r q k. search rules))) c.requires

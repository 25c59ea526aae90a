use Rattle.std.proofs.{Common.rules, lemmas.{Fn.always_returns_same, List.Sorted.ranks_by}}
use Rattle.std.specs.Ordering.{is_lt}
use Rattle.lc_walk.specs.{Key.key_cmp, TallyRows.TallyRowModel}
use Rattle.lc_walk.proofs.{AddingUp.{added_up, absorbed_as}, Keys.key_cmp_total}
use Rattle.lc_walk.proofs.tally.keyed_rows.add_up.Goals as goal

pub returns : goal.returns
returns c =
    added_up _ (λ s x k b t y l h. absorbed_as _ _ _ _ x k y l b h.shows.0 h.shows.1 h.leaves.0 h.leaves.1 h.called.met.0) _
    c.args.rows.now.items c.sort_unstable_by.new.self.items c.dedup_by.new.self.items c.sort_unstable_by.ensures.permutation
    (c.sort_unstable_by.ensures.sorted (λ (x : TallyRowModel) (y : TallyRowModel). is_lt (key_cmp x.key y.key))
    (ranks_by key_cmp_total (λ (r : TallyRowModel). r.key)) (always_returns_same _ _ _ (λ a r q k. search rules)))
    c.dedup_by.ensures.filtered c.requires

use Rattle.std.proofs.{Common.{rules, ap, ◌∙◌, take}, lemmas.Fn.always_returns_same}
use Rattle.lc_walk.specs.{Key.key_cmp, TallyRows.TallyRowModel}
use Rattle.lc_walk.proofs.Growing.{found_in_front}
use Rattle.lc_walk.proofs.tally.keyed_rows.KeyedRows.find.Goals as goal

pub returns-clause-found : goal.returns-clause-found
returns-clause-found c =
    found_in_front c.args.self.now _ c.self.inside.sorted c.args.key.now c.binary_search_by.result c.ok.result c.ok.ensures.value
    (ap (take c.self.inside.sorted) (c.deref.ensures.value ∙ c.self.view_is)) c.binary_search_by.ensures.bound
    (c.binary_search_by.ensures.position (λ (r : TallyRowModel). key_cmp r.key c.args.key.now)
    (always_returns_same _ _ _ (λ a r q k. search rules)))

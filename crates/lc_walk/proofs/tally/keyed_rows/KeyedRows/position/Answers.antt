use Rattle.std.proofs.{Common.{◌≡◌, true, false, rules, tests}, lemmas.Iterator.{YieldsList-from_slice, IsFirst-from_position}}
use Rattle.std.specs.Ordering.{is_eq}
use Rattle.lc_walk.specs.{Key.key_cmp, TallyRows.TallyRowModel}
use Rattle.lc_walk.proofs.Growing.{known_found}
use Rattle.lc_walk.proofs.tally.keyed_rows.KeyedRows.position.Goals as goal

pub returns-clause-known : goal.returns-clause-known
returns-clause-known c =
    known_found c.args.self.now c.args.key.now c.position.result _
    (IsFirst-from_position _ _ c.position.result (λ (r : TallyRowModel). true ≡ is_eq (key_cmp r.key c.args.key.now))
    (λ (r : TallyRowModel). false ≡ is_eq (key_cmp r.key c.args.key.now)) c.position.ensures.ran
    (YieldsList-from_slice c.args.self.now cc) (λ x q k. search (rules, tests)) (λ x q k. search (rules, tests)))

use Rattle.std.proofs.Common.{◌≡◌, ◌∙◌, length, map, sym, subst, inl, inr, ⊎_elim, arith}
use Rattle.std.specs.Mem.Slots.{slots_items, slots_counts}
use Rattle.lc_board.specs.{ClosedBoard.{Settled, Unfinished, Finished}, WordClose.words_promises, WordsBoard.told}
use Rattle.lc_board.proofs.WordCloses.{unfinished, all_lie, settled, finished}
use Rattle.lc_board.proofs.words.shared.WordsShared.close.Goals as goal

pub returns-in-Err-clause-fault : goal.returns-in-Err-clause-fault
returns-in-Err-clause-fault g c =
    let size : length (slots_items c.gather-closed.result.slots) ≡ c.args.self.capacity = omega
    (arith, c.gather-closed.ensures.sizes.1, (slots_counts c.gather-closed.result.slots).0) in
    let e = c.in-Err.ensures in
    subst (λ k. Unfinished k c.args.self.workers c.in-Err.number words_promises (map told c.args.passes.items)) size
    (unfinished _ _ _ _ _ c.gather-closed.ensures.row c.in-Err.number (omega (arith, size, e.1)) e.0 e.2 e.3)

pub take_rows-requires-clause-rows : goal.take_rows-requires-clause-rows
take_rows-requires-clause-rows g c =
    let size : length (slots_items c.gather-closed.result.slots) ≡ c.args.self.capacity = omega
    (arith, c.gather-closed.ensures.sizes.1, (slots_counts c.gather-closed.result.slots).0) in
    let e = c.in-Ok.ensures in
    all_lie _ _ _ _ _ c.gather-closed.ensures.row c.in-Ok.count (omega (arith, size, e.1)) e.0

pub returns-in-Ok-take_rows-clause-settled : goal.returns-in-Ok-take_rows-clause-settled
returns-in-Ok-take_rows-clause-settled g c root is =
    let size : length (slots_items c.gather-closed.result.slots) ≡ c.args.self.capacity = omega
    (arith, c.gather-closed.ensures.sizes.1, (slots_counts c.gather-closed.result.slots).0) in
    let e = c.in-Ok.ensures in
    subst (λ j. Settled c.args.self.capacity c.args.self.workers j words_promises
    (map told c.args.passes.items) c.in-Ok-take_rows.rows.items) is
    (subst (λ k. Settled k c.args.self.workers c.args.self.table.shared.key.root.value words_promises
    (map told c.args.passes.items) c.in-Ok-take_rows.rows.items) size
    (settled _ _ _ _ _ c.gather-closed.ensures.row c.in-Ok.count (omega (arith, size, e.1)) e.0
    (⊎_elim (λ x. inl (x ∙ sym size)) (λ x. inr x) e.2) c.in-Ok-take_rows.rows.items
    (sym c.in-Ok-take_rows.rows.ok.0 ∙ c.in-Ok-take_rows.ensures.count) (λ k x low at. c.in-Ok-take_rows.ensures.rows k x low at)))

pub returns-in-Err-take_rows-clause-fault : goal.returns-in-Err-take_rows-clause-fault
returns-in-Err-take_rows-clause-fault g c = λ _.
    let size : length (slots_items c.gather-closed.result.slots) ≡ c.args.self.capacity = omega
    (arith, c.gather-closed.ensures.sizes.1, (slots_counts c.gather-closed.result.slots).0) in
    let e = c.in-Ok.ensures in
    subst (λ k. Finished k c.args.self.workers (map told c.args.passes.items)) size
    (finished _ _ _ _ _ c.gather-closed.ensures.row c.in-Ok.count (omega (arith, size, e.1)) e.0
    (⊎_elim (λ x. inl (x ∙ sym size)) (λ x. inr x) e.2))

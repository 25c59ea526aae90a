use Rattle.std.proofs.{Common.{◌∙◌, refl, sym}, lemmas.List.nil_from_length}
use Rattle.lc_board.proofs.Comparing.{not_noted, noted_otherwise}
use Rattle.lc_board.proofs.locked.compare.matches.Goals as goal

pub returns-in_default-split_last-clause-no : goal.returns-in_default-split_last-clause-no
returns-in_default-split_last-clause-no g c = λ _ same.
    let none = nil_from_length _ c.in_default-split_last.ensures.cases in
    not_noted _ c.in-Some.before.now c.in-Some.event.now (sym c.worker_in.ensures ∙ c.if-worker_in-worker.true)
    (rw (c.in-Some.ensures.cases.0, none) at (c.loop-event.invariant.down same))

pub returns-then-not-is_same_event-clause-no : goal.returns-then-not-is_same_event-clause-no
returns-then-not-is_same_event-clause-no g c = λ _ same.
    noted_otherwise _ c.in-Some.before.now c.in-Some.event.now c.in-Some-split_last.earlier.now c.in-Some-split_last.note.now
    (sym c.worker_in.ensures ∙ c.if-worker_in-worker.true)
    (λ e. c.if-not-is_same_event.ensures.no refl (c.event_in.ensures ∙ e))
    (rw (c.in-Some.ensures.cases.0, c.in-Some-split_last.ensures.cases.0) at (c.loop-event.invariant.down same))

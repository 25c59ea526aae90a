use Rattle.std.proofs.Common.{rules, ◌≡◌, length, refl}
use Rattle.lc_board.specs.{NewestFirst.newest_first, Notes.mine_of}
use Rattle.lc_board.proofs.Closing.{unfinished, differs, settled_all, ready, rows_refused, tells_other}
use Rattle.lc_board.proofs.locked.recorded.Recorded.close.Goals as goal

pub returns-in-Some-clause-fault : goal.returns-in-Some-clause-fault
returns-in-Some-clause-fault g c =
    let l = c.self.invariant.recorded in
    let same : c.self.inside.plain.capacity ≡ c.args.capacity = search rules in
    let count : length c.self.inside.plain.held ≡ c.args.workers = search rules in
    unfinished _ _ _ _ l.root l.events _ l.after same count c.in-Some.ensures.some

pub returns-in-Some-first_mismatch-clause-fault : goal.returns-in-Some-first_mismatch-clause-fault
returns-in-Some-first_mismatch-clause-fault g c =
    let l = c.self.invariant.recorded in
    let same : c.self.inside.plain.capacity ≡ c.args.capacity = search rules in
    let count : length c.self.inside.plain.held ≡ c.args.workers = search rules in
    let found = rw c.as_slice.ensures.value at c.in-Some-first_mismatch.ensures.some in
    (refl, differs _ _ _ _ _ found.0 l.root l.events _ _ l.after same count l.stored_is c.in_default.ensures.none found.1 found.2)

pub returns-in-Ok-clause-settled : goal.returns-in-Ok-clause-settled
returns-in-Ok-clause-settled g c root =
    let l = c.self.invariant.recorded in
    let same : c.self.inside.plain.capacity ≡ c.args.capacity = search rules in
    let count : length c.self.inside.plain.held ≡ c.args.workers = search rules in
    let all = rw c.as_slice.ensures.value at c.in_default-first_mismatch.ensures.none in
    settled_all _ _ _ root _ l.root l.events _ _ _ l.after same count l.stored_is c.in-Ok.ensures.rows c.requires.all all

pub returns-in-Some-clause-refused : goal.returns-in-Some-clause-refused
returns-in-Some-clause-refused g c = rw (← c.self.view_is) c.in-Some.ensures.some

pub returns-in-Some-first_mismatch-clause-refused : goal.returns-in-Some-first_mismatch-clause-refused
returns-in-Some-first_mismatch-clause-refused g c =
    let found = rw c.as_slice.ensures.value at c.in-Some-first_mismatch.ensures.some in
    rw (← c.self.view_is) (
      c.in_default.ensures.none,
      tells_other (λ p. record {
        worker = p.worker;
        mine = mine_of p.notes.items;
        full = p.full;
        refused = p.refused;
      }) c.args.passes.now
          (newest_first c.self.inside.history.items) c.in-Some-first_mismatch.worker found.0 found.1 found.2,
    )

pub returns-clause-refused : goal.returns-clause-refused
returns-clause-refused g c =
    let all = rw c.as_slice.ensures.value at c.in_default-first_mismatch.ensures.none in
    rw (← c.self.view_is) (rows_refused _ _ _ _ c.in-Err.fault c.in-Err.ensures.fault (λ _ _. ready _ _ _ _ c.in_default.ensures.none all))

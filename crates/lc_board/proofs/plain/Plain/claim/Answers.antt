use Rattle.std.proofs.Common.{◌<◌, ◌≤◌, length, Some, arith, refl, ap, ◌∙◌}
use Rattle.lc_board.proofs.{PlainSound.sound_claim, PlainReplies.{claim_got, claim_over, none_open, some_held, read}}
use Rattle.lc_board.proofs.plain.Plain.claim.Goals as goal

pub invariant_of-self : goal.invariant_of-self
invariant_of-self g c =
    let near : c.self.inside.next < length c.self.inside.cells.items = omega (arith, c.self.inside.cells.ok.0) in
    let here = read _ _ _ near c.index_mut.ensures.value ∙ ap Some c.take_job-job.ensures.here in
    let free = rw (← c.self.view_is) at c.requires.free in
    let low = rw (← c.self.view_is) at c.requires.worker in
    rw c.take_job-job.ensures.cell (sound_claim _ _ _ _ _ c.self.invariant free low refl near here)

pub returns-then-number-len : goal.returns-then-number-len
returns-then-number-len g c =
    let near : c.self.inside.next < length c.self.inside.cells.items = omega (arith, c.self.inside.cells.ok.0) in
    let here = read _ _ _ near c.index_mut.ensures.value ∙ ap Some c.take_job-job.ensures.here in
    let free = rw (← c.self.view_is) at c.requires.free in
    let low = rw (← c.self.view_is) at c.requires.worker in
    rw (← c.self.view_is, c.take_job-job.ensures.cell) (claim_got _ _ _ _ c.self.invariant free low near here)

pub returns-then-is_any_held : goal.returns-then-is_any_held
returns-then-is_any_held g c =
    let full : length c.self.inside.cells.items ≤ c.self.inside.next = omega (arith, c.self.inside.cells.ok.0) in
    let some = rw c.deref.ensures.value at (c.if-is_any_held.ensures.some refl) in
    rw (← c.self.view_is) (none_open _ _ c.self.invariant full, some_held _ _ c.self.invariant some, refl)

pub returns : goal.returns
returns g c =
    let full : length c.self.inside.cells.items ≤ c.self.inside.next = omega (arith, c.self.inside.cells.ok.0) in
    let low = rw (← c.self.view_is) at c.requires.worker in
    let none = rw c.deref.ensures.value at (c.if-is_any_held.ensures.none refl) in
    rw (← c.self.view_is) (claim_over _ _ _ c.self.invariant low full none)

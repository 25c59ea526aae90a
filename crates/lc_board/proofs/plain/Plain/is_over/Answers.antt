use Rattle.std.proofs.{Common.{◌<◌, ◌≤◌, length, arith}, lemmas.Bool.{not-true, not-false}}
use Rattle.lc_board.proofs.PlainReplies.{none_open, none_held, some_left, held_left}
use Rattle.lc_board.proofs.plain.Plain.is_over.Goals as goal

pub returns-then-self-len-clause-left : goal.returns-then-self-len-clause-left
returns-then-self-len-clause-left g c =
    let less : c.self.inside.next < length c.self.inside.cells.items = omega (arith, c.self.inside.cells.ok.0) in
    λ _. rw (← c.self.view_is) (some_left _ _ c.self.invariant less)

pub returns-clause-left : goal.returns-clause-left
returns-clause-left g c = λ f.
    let some = rw c.deref.ensures.value at (c.is_any_held.ensures.some (not-false _ f)) in
    rw (← c.self.view_is) (held_left _ _ c.self.invariant some)

pub returns-clause-over : goal.returns-clause-over
returns-clause-over g c = λ t.
    let full : length c.self.inside.cells.items ≤ c.self.inside.next = omega (arith, c.self.inside.cells.ok.0) in
    let none = rw c.deref.ensures.value at (c.is_any_held.ensures.none (not-true _ t)) in
    rw (← c.self.view_is) (none_open _ _ c.self.invariant full, none_held _ _ c.self.invariant none)

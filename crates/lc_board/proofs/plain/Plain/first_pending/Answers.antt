use Rattle.lc_board.proofs.plain.Plain.first_pending.Goals as goal

pub returns-clause-some : goal.returns-clause-some
returns-clause-some g c = rw (← c.self.view_is) (rw c.deref.ensures.value at c.first_pending.ensures.some)

pub returns-clause-none : goal.returns-clause-none
returns-clause-none g c = rw (← c.self.view_is) (rw c.deref.ensures.value at c.first_pending.ensures.none)

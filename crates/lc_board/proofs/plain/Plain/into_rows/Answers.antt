use Rattle.lc_board.proofs.PlainSteps.{rows_placed}
use Rattle.lc_board.proofs.plain.Plain.into_rows.Goals as goal

pub returns-in-Some-clause-fault : goal.returns-in-Some-clause-fault
returns-in-Some-clause-fault g c = rw (← c.self.view_is) (rw c.deref.ensures.value at c.in-Some.ensures.some)

pub all_ended-requires : goal.all_ended-requires
all_ended-requires g c = rw c.deref.ensures.value at c.in_default.ensures.none

pub returns-in-Ok-clause-rows : goal.returns-in-Ok-clause-rows
returns-in-Ok-clause-rows g c = rw (← c.self.view_is) c.in-Ok.ensures

pub returns-in-Ok-clause-placed : goal.returns-in-Ok-clause-placed
returns-in-Ok-clause-placed g c root h a =
    rows_placed root h _ _ (rw (← c.self.view_is) at a) c.in-Ok.ensures

pub returns-clause-fault : goal.returns-clause-fault
returns-clause-fault g c = rw (← c.self.view_is) (rw c.deref.ensures.value at c.in_default.ensures.none)

use Rattle.lc_board.proofs.plain.Plain.give.Goals as goal

pub returns-clause-event : goal.returns-clause-event
returns-clause-event g c = c.end.ensures.event

use Rattle.lc_board.proofs.words.Words.fault.Goals as goal

pub returns-clause-rule : goal.returns-clause-rule
returns-clause-rule g c = c.end.ensures.rule

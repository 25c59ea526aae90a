use Rattle.lc_glob.proofs.FirstByte.{split_none, split_some, before_none, before_some, after_none, after_some}
use Rattle.lc_glob.proofs.cut.cut_at_first.Goals as goal

pub returns-in-None-clause-pieces : goal.returns-in-None-clause-pieces
returns-in-None-clause-pieces c = split_none _ _ c.in-None.ensures

pub returns-in-None-clause-before : goal.returns-in-None-clause-before
returns-in-None-clause-before c = before_none _ _ c.in-None.ensures

pub returns-in-None-clause-after : goal.returns-in-None-clause-after
returns-in-None-clause-after c = after_none _ _ c.in-None.ensures

pub returns-in-Some-clause-pieces : goal.returns-in-Some-clause-pieces
returns-in-Some-clause-pieces c = split_some _ _ _ c.in-Some.ensures

pub returns-in-Some-clause-before : goal.returns-in-Some-clause-before
returns-in-Some-clause-before c = before_some _ _ _ c.in-Some.ensures

pub returns-in-Some-clause-after : goal.returns-in-Some-clause-after
returns-in-Some-clause-after c = after_some _ _ _ c.in-Some.ensures

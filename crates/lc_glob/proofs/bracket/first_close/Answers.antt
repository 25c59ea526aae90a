use Rattle.lc_glob.proofs.Items.{first_some, first_none}
use Rattle.lc_glob.proofs.bracket.first_close.Goals as goal

pub returns-in-None-clause-is : goal.returns-in-None-clause-is
returns-in-None-clause-is c = first_none 93 _ c.in-None.ensures

pub returns-in-Some-clause-is : goal.returns-in-Some-clause-is
returns-in-Some-clause-is c = first_some 93 _ _ c.in-Some.ensures

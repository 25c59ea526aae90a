use Rattle.lc_paths.proofs.Explanations.Agreeing.{agree, into}
use Rattle.lc_paths.proofs.laws.entries_are_explained_as_decided.Goals as goal

pub returns-clause-entry : goal.returns-clause-entry
returns-clause-entry c = agree

pub returns-clause-into : goal.returns-clause-into
returns-clause-into c = into

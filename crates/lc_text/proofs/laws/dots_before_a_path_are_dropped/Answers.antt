use Rattle.lc_text.proofs.DotsDropped.{kept_law, undotted_law}
use Rattle.lc_text.proofs.laws.dots_before_a_path_are_dropped.Goals as goal

pub returns-clause-dropped : goal.returns-clause-dropped
returns-clause-dropped c = undotted_law

pub returns-clause-kept : goal.returns-clause-kept
returns-clause-kept c = kept_law

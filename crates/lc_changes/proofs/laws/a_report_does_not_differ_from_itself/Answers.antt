use Rattle.lc_changes.proofs.SelfLaw.{self_law}
use Rattle.lc_changes.proofs.laws.a_report_does_not_differ_from_itself.Goals as goal

pub returns : goal.returns
returns c = self_law

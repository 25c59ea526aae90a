use Rattle.lc_rows.proofs.KeptParts.{no_condition_law}
use Rattle.lc_rows.proofs.kept_laws.no_condition_keeps_all.Goals as goal

pub returns : goal.returns
returns c = no_condition_law

use Rattle.lc_rows.proofs.KeptTotals.{kept_totals_law}
use Rattle.lc_rows.proofs.kept_laws.conditions_keep_totals.Goals as goal

pub returns : goal.returns
returns c = kept_totals_law

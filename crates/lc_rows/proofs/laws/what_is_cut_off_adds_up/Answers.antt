use Rattle.lc_rows.proofs.ViewLaws.{cut_totals_law}
use Rattle.lc_rows.proofs.laws.what_is_cut_off_adds_up.Goals as goal

pub returns : goal.returns
returns c = cut_totals_law

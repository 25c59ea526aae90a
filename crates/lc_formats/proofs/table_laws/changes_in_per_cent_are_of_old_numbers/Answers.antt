use Rattle.lc_formats.proofs.ChangeLawProofs.{growth_law}
use Rattle.lc_formats.proofs.table_laws.changes_in_per_cent_are_of_old_numbers.Goals as goal

pub returns : goal.returns
returns c = growth_law

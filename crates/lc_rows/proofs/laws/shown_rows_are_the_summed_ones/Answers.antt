use Rattle.lc_rows.proofs.RowLaws.{permutation_law}
use Rattle.lc_rows.proofs.laws.shown_rows_are_the_summed_ones.Goals as goal

pub returns : goal.returns
returns c = permutation_law

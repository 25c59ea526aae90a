use Rattle.lc_rows.proofs.TreeLaw.{tree_law}
use Rattle.lc_rows.proofs.laws.rows_of_a_tree_are_the_sums_of_what_is_below.Goals as goal

pub returns : goal.returns
returns c = tree_law

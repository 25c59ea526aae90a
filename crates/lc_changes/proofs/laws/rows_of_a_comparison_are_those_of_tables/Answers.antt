use Rattle.lc_changes.proofs.TablesLaw.{tables_law}
use Rattle.lc_changes.proofs.laws.rows_of_a_comparison_are_those_of_tables.Goals as goal

pub returns : goal.returns
returns c = tables_law

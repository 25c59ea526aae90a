use Rattle.lc_formats.proofs.ChangeLawProofs.{change_law, no_change_law}
use Rattle.lc_formats.proofs.table_laws.changes_add_up_to_new_numbers.Goals as goal

pub returns-clause-change : goal.returns-clause-change
returns-clause-change c = change_law

pub returns-clause-none : goal.returns-clause-none
returns-clause-none c = no_change_law

use Rattle.lc_walk.proofs.Classes.{both_are_all}
use Rattle.lc_rows.proofs.laws.classes_add_up_to_all_rows.Goals as goal

pub returns : goal.returns
returns c = both_are_all

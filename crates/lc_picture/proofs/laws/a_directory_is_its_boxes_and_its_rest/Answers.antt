use Rattle.lc_picture.proofs.AddingUp.{sums_law, tree_sums_law}
use Rattle.lc_picture.proofs.laws.a_directory_is_its_boxes_and_its_rest.Goals as goal

pub returns-clause-boxes : goal.returns-clause-boxes
returns-clause-boxes c = sums_law

pub returns-clause-levels : goal.returns-clause-levels
returns-clause-levels c = tree_sums_law

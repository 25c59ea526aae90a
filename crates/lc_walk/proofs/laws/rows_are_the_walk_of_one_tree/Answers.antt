use Rattle.lc_walk.proofs.WalkOfRows.{one_answer_law}
use Rattle.lc_walk.proofs.laws.rows_are_the_walk_of_one_tree.Goals as goal

pub returns : goal.returns
returns c = one_answer_law

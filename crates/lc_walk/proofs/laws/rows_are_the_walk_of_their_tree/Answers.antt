use Rattle.lc_walk.proofs.WalkOfRows.{core_law, numbers_law}
use Rattle.lc_walk.proofs.laws.rows_are_the_walk_of_their_tree.Goals as goal

pub returns-clause-found : goal.returns-clause-found
returns-clause-found c = core_law

pub returns-clause-numbers : goal.returns-clause-numbers
returns-clause-numbers c = numbers_law

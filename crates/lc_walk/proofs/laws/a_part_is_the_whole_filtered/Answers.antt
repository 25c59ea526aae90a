use Rattle.lc_walk.proofs.PartOfWalk.{part_law, two_walks_law}
use Rattle.lc_walk.proofs.laws.a_part_is_the_whole_filtered.Goals as goal

pub returns-clause-two_walks : goal.returns-clause-two_walks
returns-clause-two_walks c = two_walks_law

pub returns-clause-one_tree : goal.returns-clause-one_tree
returns-clause-one_tree c = part_law

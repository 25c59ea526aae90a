use Rattle.lc_walk.proofs.FoundByPlace.{found_law}
use Rattle.lc_walk.proofs.laws.all_that_is_found_is_given.Goals as goal

pub returns : goal.returns
returns c = found_law

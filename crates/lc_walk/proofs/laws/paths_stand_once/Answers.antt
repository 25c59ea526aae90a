use Rattle.lc_walk.proofs.PathsApart.{paths_once_law}
use Rattle.lc_walk.proofs.laws.paths_stand_once.Goals as goal

pub returns : goal.returns
returns c = paths_once_law

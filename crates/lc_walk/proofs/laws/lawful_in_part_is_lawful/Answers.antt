use Rattle.lc_walk.proofs.WalkOfRows.{part_law}
use Rattle.lc_walk.proofs.laws.lawful_in_part_is_lawful.Goals as goal

pub returns : goal.returns
returns c = part_law

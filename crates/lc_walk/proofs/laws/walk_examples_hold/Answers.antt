use Rattle.std.proofs.Common.{refl}
use Rattle.lc_glob.specs.IsMatch as IsMatch
use Rattle.lc_walk.proofs.laws.walk_examples_hold.Goals as goal

pub returns : goal.returns
unfolding IsMatch.is_match
returns c = record { counted = refl; below = refl }

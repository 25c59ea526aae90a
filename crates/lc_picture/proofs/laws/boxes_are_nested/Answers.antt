use Rattle.lc_picture.proofs.Nesting.{nesting_law}
use Rattle.lc_picture.proofs.laws.boxes_are_nested.Goals as goal

pub returns : goal.returns
returns c = nesting_law

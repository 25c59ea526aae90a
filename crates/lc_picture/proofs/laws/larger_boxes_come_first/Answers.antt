use Rattle.lc_picture.proofs.Falling.{falling_law}
use Rattle.lc_picture.proofs.laws.larger_boxes_come_first.Goals as goal

pub returns : goal.returns
returns c = falling_law

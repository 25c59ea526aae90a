use Rattle.lc_picture.proofs.StripLists.{strips_law}
use Rattle.lc_picture.proofs.laws.strips_are_the_boxes_in_a_box.Goals as goal

pub returns : goal.returns
returns c = strips_law

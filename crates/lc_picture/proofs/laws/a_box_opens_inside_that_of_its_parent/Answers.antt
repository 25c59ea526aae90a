use Rattle.lc_picture.proofs.InsideBoxes.{inside_law}
use Rattle.lc_picture.proofs.laws.a_box_opens_inside_that_of_its_parent.Goals as goal

pub returns : goal.returns
returns c = inside_law

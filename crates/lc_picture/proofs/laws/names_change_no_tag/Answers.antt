use Rattle.lc_picture.proofs.Outlines.{outline_law}
use Rattle.lc_picture.proofs.laws.names_change_no_tag.Goals as goal

pub returns : goal.returns
returns c = outline_law

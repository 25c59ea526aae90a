use Rattle.lc_picture.proofs.ChartColours.{colours_law}
use Rattle.lc_picture.proofs.laws.rows_have_the_colours_of_their_extensions.Goals as goal

pub returns : goal.returns
returns c = colours_law

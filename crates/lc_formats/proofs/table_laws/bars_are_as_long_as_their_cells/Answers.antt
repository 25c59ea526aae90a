use Rattle.lc_formats.proofs.Bars.{length_bar}
use Rattle.lc_formats.proofs.table_laws.bars_are_as_long_as_their_cells.Goals as goal

pub returns : goal.returns
returns c = length_bar

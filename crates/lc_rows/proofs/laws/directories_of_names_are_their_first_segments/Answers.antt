use Rattle.lc_rows.proofs.TreePaths.{named_directory}
use Rattle.lc_rows.proofs.laws.directories_of_names_are_their_first_segments.Goals as goal

pub returns : goal.returns
returns c = named_directory

use Rattle.lc_walk.proofs.IncludedFiles.{include_law}
use Rattle.lc_walk.proofs.laws.included_files_are_the_whole_filtered.Goals as goal

pub returns : goal.returns
returns c = include_law

use Rattle.std.proofs.Common.{length}
use Rattle.lc_program.proofs.PathsListed.{IsListedTo}
use Rattle.lc_program.proofs.path_list.paths_of.Given as goal

abbrev pub invariant-paths : goal.invariant-paths
invariant-paths l = IsListedTo l.end l.list l.rest l.paths.items

abbrev pub decreases-paths : goal.decreases-paths
decreases-paths l = length l.rest

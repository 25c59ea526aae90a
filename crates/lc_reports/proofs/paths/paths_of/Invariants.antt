use Rattle.std.proofs.Common.{◌≡◌, ◌++◌, length}
use Rattle.lc_reports.specs.Paths.{paths_of}
use Rattle.lc_reports.proofs.paths.paths_of.Given as goal

abbrev pub invariant-parts : goal.invariant-parts
invariant-parts l = l.paths.items ++ paths_of l.rest ≡ paths_of l.parts

abbrev pub decreases-parts : goal.decreases-parts
decreases-parts l = length l.rest

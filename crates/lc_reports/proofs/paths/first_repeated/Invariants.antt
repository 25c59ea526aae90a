use Rattle.std.proofs.Common.{◌≡◌, length}
use Rattle.lc_reports.specs.Paths.{first_repeated}
use Rattle.lc_reports.proofs.paths.first_repeated.Given as goal

abbrev pub invariant-paths : goal.invariant-paths
invariant-paths l = first_repeated l.rest ≡ first_repeated l.paths

abbrev pub decreases-paths : goal.decreases-paths
decreases-paths l = length l.rest

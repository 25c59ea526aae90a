use Rattle.std.proofs.Common.{◌≡◌, ◌++◌, length, map}
use Rattle.lc_program.specs.Hints.{paths_in}
use Rattle.lc_program.proofs.hints.paths_in.Given as goal

abbrev pub invariant-repositories : goal.invariant-repositories
invariant-repositories l = map (λ path. path.now) l.paths.items ++ paths_in l.top l.rest ≡ paths_in l.top l.fn.repositories

abbrev pub decreases-repositories : goal.decreases-repositories
decreases-repositories l = length l.rest

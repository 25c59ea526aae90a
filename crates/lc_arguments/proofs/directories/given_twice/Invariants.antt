use Rattle.std.proofs.Common.{◌≡◌, length, map}
use Rattle.lc_arguments.specs.Directories.{are_distinct, unslashed}
use Rattle.lc_arguments.proofs.directories.given_twice.Given as goal

abbrev pub invariant-rest : goal.invariant-rest
invariant-rest l = are_distinct (map (λ d. unslashed d.now) l.rest) ≡ are_distinct (map (λ d. unslashed d.now) l.directories)

abbrev pub decreases-rest : goal.decreases-rest
decreases-rest l = length l.rest

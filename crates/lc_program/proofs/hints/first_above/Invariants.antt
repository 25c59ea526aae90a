use Rattle.std.proofs.Common.{◌≡◌, drop, map}
use Rattle.lc_program.specs.Hints.{first_above}
use Rattle.lc_program.proofs.hints.first_above.Given as goal

abbrev pub invariant-loop-directory : goal.invariant-loop-directory
invariant-loop-directory l =
    first_above (map (λ d. d.now) (drop l.directory-index l.directories)) l.rest
    ≡ first_above (map (λ d. d.now) l.directories) l.fn.repositories

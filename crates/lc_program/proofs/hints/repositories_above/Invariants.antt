use Rattle.std.proofs.Common.{map, take}
use Rattle.std.specs.List.{AllZip}
use Rattle.lc_program.proofs.hints.repositories_above.Given as goal

abbrev pub invariant-loop-directory : goal.invariant-loop-directory
invariant-loop-directory g l =
    AllZip (g.Y.System.lies l.system) (map (λ d. d.now) (take l.directory-index l.directories)) l.repositories.items

use Rattle.std.proofs.Common.{◌≡◌, ◌++◌, map, drop}
use Rattle.lc_level.specs.{Level.absent_faults, PathSteps.unled}
use Rattle.lc_level.proofs.narrowing.Selection.absent.Given as goal

abbrev pub invariant-loop-rest : goal.invariant-loop-rest
invariant-loop-rest l =
    l.absent.items ++ absent_faults (unled l.entries (map (λ rest. rest.now) (drop l.rest-index l.rest-items)))
    ≡ absent_faults (unled l.entries (map (λ rest. rest.now) l.rest-items))

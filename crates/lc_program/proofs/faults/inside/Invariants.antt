use Rattle.std.proofs.Common.{◌≡◌, map, take}
use Rattle.lc_program.specs.Faults.{inside}
use Rattle.lc_program.proofs.faults.inside.Given as goal

abbrev pub invariant-loop-fault : goal.invariant-loop-fault
invariant-loop-fault l = map (λ f. f.now) l.kept.items ≡ inside (map (λ d. d.now) l.directories) (take l.fault-index l.faults)

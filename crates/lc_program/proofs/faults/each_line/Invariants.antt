use Rattle.std.proofs.Common.{◌≡◌, map, string_bytes, take}
use Rattle.lc_program.specs.Faults.{each_line}
use Rattle.lc_program.proofs.faults.each_line.Given as goal

abbrev pub invariant-loop-fault : goal.invariant-loop-fault
invariant-loop-fault l = string_bytes l.text ≡ each_line (map (λ f. f.now) (take l.fault-index l.faults))

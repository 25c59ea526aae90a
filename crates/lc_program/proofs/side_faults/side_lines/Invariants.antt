use Rattle.std.proofs.Common.{◌≡◌, string_bytes, take}
use Rattle.lc_program.specs.SideFaults.{side_lines}
use Rattle.lc_program.proofs.side_faults.side_lines.Given as goal

abbrev pub invariant-loop-fault : goal.invariant-loop-fault
invariant-loop-fault l = string_bytes l.text ≡ side_lines l.name (take l.fault-index l.faults)

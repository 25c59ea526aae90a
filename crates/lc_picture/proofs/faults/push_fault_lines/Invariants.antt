use Rattle.std.proofs.Common.{◌≡◌, ◌++◌, drop}
use Rattle.lc_picture.specs.{Faults.fault_lines, Pieces.text_of}
use Rattle.lc_picture.proofs.faults.push_fault_lines.Given as goal

abbrev pub invariant-loop-fault : goal.invariant-loop-fault
invariant-loop-fault l =
    l.text.items ++ text_of (fault_lines (drop l.fault-index l.faults)) ≡ l.initial.text.items ++ text_of (fault_lines l.faults)

use Rattle.std.proofs.Common.{string_bytes}
use Rattle.lc_program.proofs.Appending.{lines_more}
use Rattle.lc_program.specs.SideFaults.{fault_line}
use Rattle.lc_program.proofs.side_faults.side_lines.Goals as goal

pub loop-fault-preserved : goal.loop-fault-preserved
loop-fault-preserved c =
    lines_more (fault_line c.args.name.now) c.args.faults.now c.loop-fault.fault-index _ c.fault-item.result
    (string_bytes c.loop-fault.text) (string_bytes c.push_fault.new.text) c.loop-fault-test.true c.fault-item.is c.loop-fault.invariant
    c.in_ok-push_fault.ensures

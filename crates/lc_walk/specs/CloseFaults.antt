-- The error of a walk whose board could not be closed.
use Rattle.lc_board.specs.declared.answers.CloseFault.{CloseFault}
use Rattle.lc_board.specs.declared.answers.CloseFault.TheVariants as close
use Rattle.lc_walk.specs.declared.walk_fault.WalkFault.{WalkFault}
use Rattle.lc_walk.specs.declared.walk_fault.WalkFault.TheVariants as fault

-- a board with an unfinished number makes the error Torn
abbrev pub fault_of_close : CloseFault → WalkFault
fault_of_close (close.Unfinished n) = fault.Torn n
fault_of_close (close.Mismatch w) = fault.Mismatch w
fault_of_close close.Memory = fault.Memory

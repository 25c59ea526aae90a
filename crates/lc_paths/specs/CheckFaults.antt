-- The errors of a check, by the error that stops it.
use Rattle.lc_io.specs.declared.{whole.WholeFault.WholeFault, printing.PrintFault.PrintFault}
use Rattle.lc_rules.specs.declared.faults.RuleFault.{RuleFault}
use Rattle.lc_paths.specs.declared.check_fault.CheckFault.{CheckFault, TheVariants.{Read, InputTooLong, RulesTooLong, Memory, Write}}
use Rattle.lc_io.specs.declared.whole.WholeFault.TheVariants as whole
use Rattle.lc_rules.specs.declared.faults.RuleFault.TheVariants as rule
use Rattle.lc_io.specs.declared.printing.PrintFault.TheVariants as print

-- the error of reading the input
abbrev pub input_fault : WholeFault → CheckFault
input_fault whole.Read = Read
input_fault whole.TooLong = InputTooLong
input_fault whole.Memory = Memory

-- the error of the rules in the input
abbrev pub rules_fault : RuleFault → CheckFault
rules_fault rule.TooLong = RulesTooLong
rules_fault rule.Memory = Memory

-- the error of writing the output
abbrev pub print_fault : PrintFault → CheckFault
print_fault print.Write = Write
print_fault print.Memory = Memory

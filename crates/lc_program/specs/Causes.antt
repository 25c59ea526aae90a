-- Why the program stops with an error, and the line that it then writes to standard error.
use Rattle.std.specs.Prelude.{ℕ, List, ◌++◌, Option, codes, decimal, string_bytes}
use Rattle.lc_text.specs.Visible.{visible_bytes}
use Rattle.lc_paths.specs.declared.check_fault.CheckFault.{CheckFault}
use Rattle.lc_walk.specs.declared.walk_fault.WalkFault.{WalkFault}
use Rattle.lc_io.specs.declared.printing.PrintFault.{PrintFault}
use Rattle.lc_level.specs.declared.rule_files.rule_text.RulesFileFault.{RulesFileFault}
use Rattle.lc_program.specs.Reasons.{reason_given}
use Rattle.lc_program.specs.declared.cause.Cause.{Cause}
use Rattle.lc_program.specs.declared.cause.Cause.TheVariants.{Memory, TooManyDirs, TooDeep, Torn, Mismatch, UnreadRules, RulesTooLong}
use Rattle.lc_program.specs.declared.cause.Cause.TheVariants.{UnreadPaths, PathsTooLong, BadPaths, UnreadInput, InputTooLong, Unwritten}
use Rattle.lc_program.specs.declared.cause.Cause.TheVariants.{InDirectory, InReport, Nested, NoSharedColumn, SumsTooLarge}
use Rattle.lc_program.specs.declared.cause.Cause.TheVariants.{AttributesTooLong, UnreadAttributes}
use Rattle.lc_program.specs.declared.unread_reason.UnreadReason.{UnreadReason}
use Rattle.lc_reports.specs.declared.join_fault.JoinFault.{JoinFault}
use Rattle.lc_walk.specs.declared.walk_fault.WalkFault.TheVariants as walk
use Rattle.lc_paths.specs.declared.check_fault.CheckFault.TheVariants as check
use Rattle.lc_io.specs.declared.printing.PrintFault.TheVariants as print
use Rattle.lc_level.specs.declared.rule_files.rule_text.RulesFileFault.TheVariants as rules
use Rattle.lc_reports.specs.declared.join_fault.JoinFault.TheVariants as join

-- the line that says that the list of paths could not be read, and why if the system gives a reason
abbrev pub unread_paths_line : Option UnreadReason → List ℕ
unread_paths_line why = codes "lc: cannot read paths" ++ reason_given why ++ codes "\n"

-- the same of the attribute file that the command line names
abbrev pub unread_attributes_line : Option UnreadReason → List ℕ
unread_attributes_line why = codes "lc: cannot read attributes" ++ reason_given why ++ codes "\n"

abbrev pub cause_line : Cause → List ℕ
cause_line Memory = codes "lc: out of memory\n"
cause_line TooManyDirs = codes "lc: too many directories\n"
cause_line TooDeep = codes "lc: path too deep\n"
cause_line (Torn n) = codes "lc: internal: directory " ++ decimal n ++ codes " torn\n"
cause_line (Mismatch w) = codes "lc: internal: worker " ++ decimal w ++ codes " mismatch\n"
cause_line UnreadRules = codes "lc: cannot read rules\n"
cause_line RulesTooLong = codes "lc: rules too long\n"
cause_line (UnreadAttributes why) = unread_attributes_line why
cause_line AttributesTooLong = codes "lc: attributes too long\n"
cause_line (UnreadPaths why) = unread_paths_line why
cause_line PathsTooLong = codes "lc: paths too long\n"
cause_line (BadPaths line) = string_bytes line
cause_line (Nested line) = string_bytes line
cause_line (InDirectory line) = string_bytes line
cause_line (InReport line) = string_bytes line
cause_line NoSharedColumn = codes "lc: no column is in every report: count with --files\n"
cause_line SumsTooLarge = codes "lc: sums too large\n"
cause_line UnreadInput = codes "lc: cannot read input\n"
cause_line InputTooLong = codes "lc: input too long\n"
cause_line Unwritten = codes "lc: cannot write\n"

-- the line of the cause has a number, so making it allocates memory
abbrev pub HasNumber : Cause → Type 0
HasNumber (Torn _) = Unit {0}
HasNumber (Mismatch _) = Unit {0}
HasNumber _ = ⊥

-- the cause if a file gave no rules
abbrev pub rules_cause : RulesFileFault → Cause
rules_cause rules.Read = UnreadRules
rules_cause rules.TooLong = RulesTooLong
rules_cause rules.Memory = Memory

-- the line that says that the list with this name has a path that no entry can have
abbrev pub bad_path_line : List ℕ → List ℕ → List ℕ
bad_path_line name path = codes "lc: bad path in " ++ visible_bytes name ++ codes ": " ++ visible_bytes path ++ codes "\n"

-- the line that says that the list with this name has no path
abbrev pub no_path_line : List ℕ → List ℕ
no_path_line name = codes "lc: no path in " ++ visible_bytes name ++ codes "\n"

-- the cause if a check of paths stopped, explained or not
abbrev pub check_cause : CheckFault → Cause
check_cause check.Read = UnreadInput
check_cause check.InputTooLong = InputTooLong
check_cause check.RulesTooLong = RulesTooLong
check_cause check.Memory = Memory
check_cause check.Write = Unwritten

-- the cause if a walk gave no report
abbrev pub walk_cause : WalkFault → Cause
walk_cause walk.Memory = Memory
walk_cause walk.TooManyDirs = TooManyDirs
walk_cause walk.TooDeep = TooDeep
walk_cause (walk.Torn n) = Torn n
walk_cause (walk.Mismatch w) = Mismatch w

-- the cause if reports have no sum
abbrev pub join_cause : JoinFault → Cause
join_cause join.Memory = Memory
join_cause join.TooLarge = SumsTooLarge

-- the cause if a text was not written, or not whole
abbrev pub print_cause : PrintFault → Cause
print_cause print.Memory = Memory
print_cause print.Write = Unwritten

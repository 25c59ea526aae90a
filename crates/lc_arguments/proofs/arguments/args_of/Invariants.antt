use Rattle.std.proofs.Common.{map, take}
use Rattle.lc_arguments.specs.{CommandLine.rules_in, CountArgs.AreArgsOf, Options.option_model}
use Rattle.lc_arguments.proofs.arguments.args_of.Given as goal

abbrev pub invariant-loop-row : goal.invariant-loop-row
invariant-loop-row l = AreArgsOf (rules_in l.command (map option_model (take l.row-index l.rows))) l.args.items

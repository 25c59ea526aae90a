use Rattle.std.proofs.Common.{length, map}
use Rattle.lc_arguments.specs.CommandLine.{command_app}
use Rattle.lc_arguments.proofs.CommandRules.{LacksOf}
use Rattle.lc_arguments.proofs.request.command.Given as goal

abbrev pub invariant-commands : goal.invariant-commands
invariant-commands l = LacksOf (map command_app l.left) l.command

abbrev pub decreases-commands : goal.decreases-commands
decreases-commands l = length l.left

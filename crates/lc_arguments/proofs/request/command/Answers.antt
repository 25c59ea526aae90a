use Rattle.std.proofs.Common.{List, map, subst}
use Rattle.lc_arguments.specs.{CommandLine.command_app, declared.option_row.Subcommand.Subcommand}
use Rattle.lc_arguments.proofs.{CommandRules.{LacksOf, lacks_others}}
use Rattle.lc_arguments.proofs.request.command.Goals as goal

pub commands-preserved : goal.commands-preserved
commands-preserved c =
    lacks_others (command_app c.in-Some.first.now) (map command_app c.in-Some.others.now) c.commands.command c.in_ok-subcommand.subcommand
    c.in_ok-command.command
    (subst (λ (left : List Subcommand). LacksOf (map command_app left) c.commands.command) c.in-Some.ensures.cases.0 c.commands.invariant)
    c.in_ok-subcommand.ensures.0 c.in_ok-command.ensures

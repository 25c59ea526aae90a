use Rattle.std.proofs.{Common.{ℕ, List, subst}, lemmas.Result.IfOk-weaker}
use Rattle.clap.specs.Built.{AddsArg, AddsInTurn}
use Rattle.lc_arguments.specs.{CommandLine.{command_name, rules_in}, CountArgs.{IsBare, IsSubcommand}, Options.options}
use Rattle.lc_arguments.proofs.CommandRules.{apart, given, reads_number, seen_with}
use Rattle.lc_arguments.proofs.option_row.Subcommand.command.Goals as goal

pub returns : goal.returns
returns c =
    let args = c.in_ok-args.args.items in
    let bare = c.in_ok-command.command in
    let name = command_name c.args.self in
    let rules = rules_in c.args.self options in
    let is_bare = subst (λ (n : List ℕ). IsBare n bare) c.name.ensures c.in_ok-command.ensures in
    IfOk-weaker c.args-3.result (AddsInTurn AddsArg bare args) (IsSubcommand c.args.self)
    (λ command added.
    let has = given name rules bare args command is_bare c.in_ok-args.ensures added in (
      seen_with name rules command has,
      λ m parsed id most is. reads_number name rules command has (apart c.args.self) id most is m parsed,
    ))
    c.args-3.ensures

use Rattle.std.proofs.Common.{rules}
use Rattle.lc_arguments.specs.{CommandLine.{kind_rule, with_letter}, Options.option_model}
use Rattle.lc_arguments.proofs.arguments.arg.Goals as goal

pub returns-then-is_empty : goal.returns-then-is_empty
returns-then-is_empty c =
    let o = option_model c.args.row.now in
    let kind = kind_rule o.kind o.name in
    let default = c.with_default.ensures (with_letter o.letter kind) (c.with_letter-arg.ensures kind c.with_kind-arg.ensures) in
    search (rules, default)

pub returns : goal.returns
returns c =
    let o = option_model c.args.row.now in
    let kind = kind_rule o.kind o.name in
    let default = c.with_default.ensures (with_letter o.letter kind) (c.with_letter-arg.ensures kind c.with_kind-arg.ensures) in
    search (rules, default)

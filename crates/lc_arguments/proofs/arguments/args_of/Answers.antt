use Rattle.std.proofs.Common.{◌∙◌, List, ap, map, subst, sym, take}
use Rattle.clap.specs.declared.builder.arg.Arg.{Arg}
use Rattle.lc_arguments.specs.{CommandLine.rules_in, CountArgs.AreArgsOf, Options.option_model}
use Rattle.lc_arguments.proofs.{CommandRules.{none_more, one_more}, arguments.args_of.Goals.{then-has+in_ok-push, else-has}}
use Rattle.lc_arguments.proofs.arguments.args_of.Goals as goal

pub loop-row-preserved : goal.loop-row-preserved
loop-row-preserved c = elim c.if-has.branch [
  | then-has+in_ok-push w ↦
      one_more c.args.command c.args.rows.now c.loop-row.row-index _ c.loop-row.args.items c.if-has.args.items w.arg.result
      c.loop-row-test.true (sym c.has.ensures ∙ w.if-has.true) c.loop-row.invariant w.arg.ensures
      (ap (λ args. args.items) w.args-is ∙ w.in_ok-push.ensures.items)
  | else-has w ↦
      none_more c.args.command c.args.rows.now c.loop-row.row-index _ c.if-has.args.items c.loop-row-test.true
      (sym c.has.ensures ∙ w.if-has.false)
      (subst (λ (args : List Arg). AreArgsOf (rules_in c.args.command (map option_model (take c.loop-row.row-index c.args.rows.now))) args)
      (ap (λ args. args.items) (sym w.args-is)) c.loop-row.invariant)
]

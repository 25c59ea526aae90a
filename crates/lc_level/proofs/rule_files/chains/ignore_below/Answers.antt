use Rattle.std.proofs.Common.{◌∙◌, ap}
use Rattle.lc_rules.specs.IgnoreChains.{with_own}
use Rattle.lc_level.proofs.ChainSteps.{ignore_tree, ignore_info}
use Rattle.lc_level.proofs.rule_files.chains.ignore_below.Goals as goal

pub returns-clause-info : goal.returns-clause-info
returns-clause-info c =
    ignore_info c.args.depth _ c.in_ok-below.below _ c.args.own c.args.info
    (c.in_ok-below.ensures ∙ ap (λ k. with_own k c.args.depth c.args.own) c.deref.ensures) (c.in_ok-new.ensures.ok ∙ c.with_info.ensures)

pub returns-clause-tree : goal.returns-clause-tree
returns-clause-tree c =
    ignore_tree c.args.depth _ c.in_ok-below.below _ c.args.own c.args.info
    (c.in_ok-below.ensures ∙ ap (λ k. with_own k c.args.depth c.args.own) c.deref.ensures) (c.in_ok-new.ensures.ok ∙ c.with_info.ensures)

use Rattle.std.proofs.Common.{◌∙◌, ap}
use Rattle.lc_rules.specs.AttrChains.{with_info_file}
use Rattle.lc_level.proofs.ChainSteps.{attributes_info, attributes_lowest, attributes_tree}
use Rattle.lc_level.proofs.rule_files.chains.attributes_below.Goals as goal

pub returns-clause-info : goal.returns-clause-info
returns-clause-info c =
    attributes_info c.args.depth _ c.in_ok-with_info.with_info _ c.args.own c.args.info
    (c.in_ok-with_info.ensures ∙ ap (λ k. with_info_file k c.args.info) c.deref.ensures) (c.in_ok-new.ensures.ok ∙ c.in_ok-with_own.ensures)

pub returns-clause-tree : goal.returns-clause-tree
returns-clause-tree c =
    attributes_tree c.args.depth _ c.in_ok-with_info.with_info _ c.args.own c.args.info
    (c.in_ok-with_info.ensures ∙ ap (λ k. with_info_file k c.args.info) c.deref.ensures) (c.in_ok-new.ensures.ok ∙ c.in_ok-with_own.ensures)

pub returns-clause-lowest : goal.returns-clause-lowest
returns-clause-lowest c =
    attributes_lowest c.args.depth _ c.in_ok-with_info.with_info _ c.args.own c.args.info
    (c.in_ok-with_info.ensures ∙ ap (λ k. with_info_file k c.args.info) c.deref.ensures) (c.in_ok-new.ensures.ok ∙ c.in_ok-with_own.ensures)

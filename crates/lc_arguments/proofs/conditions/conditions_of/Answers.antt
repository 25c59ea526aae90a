use Rattle.std.proofs.Common.{map}
use Rattle.lc_arguments.proofs.ConditionsRead.{one_more}
use Rattle.lc_arguments.proofs.conditions.conditions_of.Goals as goal

pub texts-preserved : goal.texts-preserved
texts-preserved c =
    one_more (map (λ attribute. attribute.now) c.args.attributes.now) (map (λ text. text.now) c.args.texts.now) c.texts.left.now _
    c.texts.conditions.items c.push_condition.new.conditions.items c.texts.changes c.in_ok-changes.changes c.in-len1-up.len_at_least
    c.texts.invariant c.in_ok-changes.ensures

use Rattle.std.proofs.{Common.rules, lemmas.Fn.filter_same}
use Rattle.lc_changes.specs.KeptChanges.{keeps_change}
use Rattle.lc_changes.proofs.kept_changes.keep_kinds.Goals as goal

pub returns : goal.returns
returns c =
    filter_same _ (keeps_change c.args.kinds c.args.attributes) _ (λ x b q k. (search rules, search rules)) _ _ c.retain.ensures.filtered

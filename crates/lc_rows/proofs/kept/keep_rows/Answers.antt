use Rattle.std.proofs.{Common.rules, lemmas.Fn.filter_same}
use Rattle.lc_rows.specs.Kept.{row_meets}
use Rattle.lc_rows.proofs.kept.keep_rows.Goals as goal

pub returns : goal.returns
returns c =
    filter_same _ (row_meets c.args.conditions.now) _ (λ x b q k. (search rules, search rules)) _ _ c.retain.ensures.filtered

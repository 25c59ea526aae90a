use Rattle.std.proofs.{Common.rules, lemmas.Fn.filter_same}
use Rattle.lc_rows.specs.Kept.{file_meets}
use Rattle.lc_rows.proofs.kept.keep_files.Goals as goal

pub returns : goal.returns
returns c =
    filter_same _ (file_meets c.args.conditions.now) _ (λ x b q k. (search rules, search rules)) _ _ c.retain.ensures.filtered

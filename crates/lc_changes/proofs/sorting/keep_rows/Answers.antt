use Rattle.std.proofs.{Common.rules, lemmas.Fn.filter_same}
use Rattle.lc_changes.specs.Changes.{differs}
use Rattle.lc_changes.proofs.sorting.keep_rows.Goals as goal

pub returns : goal.returns
returns c =
    rw c.if-all.false (filter_same _ differs _ (λ x b q k. (search rules, search rules)) _ _ c.retain.ensures.filtered)

use Rattle.std.proofs.{Common.rules, lemmas.Fn.always_returns_same}
use Rattle.std.specs.Ordering.{is_lt}
use Rattle.lc_rows.specs.ShownFiles.{file_cmp}
use Rattle.lc_rows.proofs.Sorted.{files_rank}
use Rattle.lc_level.specs.Level.{FileLineModel}
use Rattle.lc_rows.proofs.files.sort.Goals as goal

pub returns-clause-order : goal.returns-clause-order
returns-clause-order c =
    c.sort_unstable_by.ensures.sorted (λ (a : FileLineModel) (b : FileLineModel). is_lt (file_cmp c.args.by a b))
    (files_rank c.args.by) (always_returns_same _ _ _ (λ a r q k. search rules))

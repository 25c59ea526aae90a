use Rattle.std.proofs.{Common.rules, lemmas.Fn.filter_same}
use Rattle.lc_changes.specs.FileChanges.{is_changed}
use Rattle.lc_changes.proofs.files.changed_files.Goals as goal

pub returns : goal.returns
returns c =
    let kept = filter_same _ (is_changed c.args.attributes) _ (λ x b q k. (search rules, search rules)) _ _ c.retain.ensures.filtered in
    search rules

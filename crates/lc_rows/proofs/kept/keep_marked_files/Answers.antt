use Rattle.std.proofs.Common.{rules, ap, ◌∙◌}
use Rattle.std.specs.List.{items_where_true}
use Rattle.lc_rows.proofs.Marks.{answers_are_marks}
use Rattle.lc_rows.proofs.kept.keep_marked_files.Goals as goal

pub returns : goal.returns
returns c =
    let told = c.retain.ensures.filtered in
    told.4
    ∙ ap (λ bs. items_where_true bs c.args.files.now.items)
    (answers_are_marks _ (λ p. p.0.now) (λ p x b q k. (search rules, search rules)) _ told.0 c.args.files.now.items told.1 c.requires
    told.2 told.3)

use Rattle.std.proofs.{Common.subst, lemmas.Result.on_ok_weaker}
use Rattle.std.specs.List.{items_where_true}
use Rattle.lc_changes.proofs.KeptParts.{kept_parts}
use Rattle.lc_rows.specs.Kept.{IsPartWith}
use Rattle.lc_changes.proofs.kept_changes.keep_changes.Goals as goal

pub returns-clause-kept : goal.returns-clause-kept
returns-clause-kept c =
    let old = c.args.old.now in
    let new = c.args.new.now in
    let old_part = c.keep_marked.new.report in
    let new_part = c.keep_marked-2.new.report in
    on_ok_weaker c.keep_marked-2.result
    (λ kept_new. kept_parts c.args.kinds c.args.attributes old new old_part new_part c.deref.result.now c.deref-2.result.now
    c.in_ok-olds.olds.items c.in_ok-olds.news.items c.if-are_all.ensures c.deref.ensures.value c.deref-2.ensures.value
    c.in_ok-olds.ensures
    (subst (λ bs. IsPartWith (items_where_true bs old.files.items) old old_part) c.deref-3.ensures.value c.in_ok-keep_marked.ensures.kept)
    (subst (λ bs. IsPartWith (items_where_true bs new.files.items) new new_part) c.deref-4.ensures.value kept_new))
    c.keep_marked-2.ensures.kept

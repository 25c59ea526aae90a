use Rattle.std.proofs.{Common.{◌∙◌, sym, subst}, lemmas.List.Kept.IsStrictlySortedBy-filter}
use Rattle.std.specs.{List.Sorted.IsStrictlySortedBy, Ordering.on}
use Rattle.lc_changes.specs.{FileChanges.{changed_path}, KeptChanges.keeps_change}
use Rattle.lc_tree.specs.ByteOrder.{bytes_cmp}
use Rattle.lc_changes.proofs.kept_changes.marked.Goals as goal

pub marks_by-requires : goal.marks_by-requires
marks_by-requires c =
    subst (IsStrictlySortedBy (on changed_path bytes_cmp)) (sym (c.deref.ensures.value ∙ c.keep_kinds.ensures))
    (IsStrictlySortedBy-filter (on changed_path bytes_cmp) (keeps_change c.args.kinds c.args.attributes) c.in_ok-pairs.pairs.items
    c.in_ok-pairs.ensures.order)

pub marks_by-requires-2 : goal.marks_by-requires-2
marks_by-requires-2 c =
    subst (IsStrictlySortedBy (on changed_path bytes_cmp)) (sym (c.deref-2.ensures.value ∙ c.keep_kinds.ensures))
    (IsStrictlySortedBy-filter (on changed_path bytes_cmp) (keeps_change c.args.kinds c.args.attributes) c.in_ok-pairs.pairs.items
    c.in_ok-pairs.ensures.order)

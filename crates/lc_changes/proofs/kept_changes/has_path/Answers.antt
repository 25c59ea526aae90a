use Rattle.std.proofs.{Common.{rules, ◌∙◌}, lemmas.{Cmp.nat_list_cmp_total, Fn.always_returns_same}}
use Rattle.lc_changes.proofs.Searching.{searched}
use Rattle.lc_changes.specs.FileChanges.{FileChangeModel, changed_path}
use Rattle.lc_tree.specs.ByteOrder.{bytes_cmp}
use Rattle.lc_changes.proofs.kept_changes.has_path.Goals as goal

pub returns : goal.returns
returns c =
    let path = c.args.path.now in
    c.is_ok.ensures.value
    ∙ searched changed_path bytes_cmp nat_list_cmp_total path c.args.pairs.now c.binary_search_by.result c.requires
    c.binary_search_by.ensures.bound
    (c.binary_search_by.ensures.position (λ (p : FileChangeModel). bytes_cmp (changed_path p) path)
    (always_returns_same _ _ _ (λ a r q k. search rules)))

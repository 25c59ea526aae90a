use Rattle.std.proofs.Common.{◌≡◌, ◌∙◌, List, rules, subst, sym, take_all}
use Rattle.std.proofs.lemmas.{Fn.{always_returns_same, dedup_same}, List.Sorted.ranks_by}
use Rattle.std.specs.Ordering.{is_lt}
use Rattle.lc_changes.proofs.ByPath.{by_path, have_one_path, path_cmp_total}
use Rattle.lc_changes.specs.FileChanges.{AreByPath}
use Rattle.lc_level.specs.Level.{FileLineModel}
use Rattle.lc_tree.specs.ByteOrder.{bytes_cmp}
use Rattle.lc_changes.proofs.file_refs.by_path.Goals as goal

pub returns : goal.returns
returns c =
    let refs = c.loop-file.refs.items in
    let all : refs ≡ c.args.files.now =
    c.loop-file.invariant ∙ take_all c.loop-file.file-index c.args.files.now c.loop-file-test.false in
    let sorted = c.sort_unstable_by.ensures.sorted (λ (a : FileLineModel) (b : FileLineModel). is_lt (bytes_cmp a.path b.path))
    (ranks_by path_cmp_total (λ (f : FileLineModel). f)) (always_returns_same _ _ _ (λ a r q k. search rules)) in
    let kept = dedup_same _ have_one_path _ (λ x y b f' x' y' k. search rules) _ _ c.dedup_by.ensures.filtered in
    subst (λ (fs : List FileLineModel). AreByPath fs c.dedup_by.new.self.items) all
    (subst (AreByPath refs) (sym kept)
    (by_path refs c.sort_unstable_by.new.self.items c.sort_unstable_by.ensures.permutation sorted))

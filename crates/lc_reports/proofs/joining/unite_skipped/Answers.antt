use Rattle.std.proofs.{Common.{rules, subst, sym}, lemmas.{List.Sorted.ranks_by, Fn.{always_returns_same, dedup_same}}}
use Rattle.std.specs.Ordering.{eq_by_cmp, is_lt}
use Rattle.lc_level.specs.Level.{SkippedLineModel}
use Rattle.lc_reports.proofs.{LineOrders.{skipped_cmp_total, skipped_ties}, Uniting.united}
use Rattle.lc_reports.specs.{Joined.IsUnited, LineOrder.skipped_cmp}
use Rattle.lc_reports.proofs.joining.unite_skipped.Goals as goal

pub returns : goal.returns
returns c =
    let sorted = c.sort_unstable_by.ensures.sorted (λ a b. is_lt (skipped_cmp a b))
    (ranks_by skipped_cmp_total (λ (l : SkippedLineModel). l)) (always_returns_same _ _ _ (λ a r q k. search rules)) in
    let kept = dedup_same _ (eq_by_cmp skipped_cmp) _ (λ x y b f' x' y' k. search rules) _ _ c.dedup_by.ensures.filtered in
    subst (IsUnited skipped_cmp c.args.skipped.now.items) (sym kept)
    (united skipped_cmp_total skipped_ties c.args.skipped.now.items c.sort_unstable_by.new.self.items c.sort_unstable_by.ensures.permutation
    sorted)

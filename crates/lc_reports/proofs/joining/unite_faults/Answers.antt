use Rattle.std.proofs.{Common.{rules, subst, sym}, lemmas.{List.Sorted.ranks_by, Fn.{always_returns_same, dedup_same}}}
use Rattle.std.specs.Ordering.{eq_by_cmp, is_lt}
use Rattle.lc_level.specs.FaultLines.{FaultLineModel}
use Rattle.lc_reports.proofs.{LineOrders.{fault_cmp_total, fault_ties}, Uniting.united}
use Rattle.lc_reports.specs.{Joined.IsUnited, LineOrder.fault_cmp}
use Rattle.lc_reports.proofs.joining.unite_faults.Goals as goal

pub returns : goal.returns
returns c =
    let sorted = c.sort_unstable_by.ensures.sorted (λ a b. is_lt (fault_cmp a b)) (ranks_by fault_cmp_total (λ (l : FaultLineModel). l))
    (always_returns_same _ _ _ (λ a r q k. search rules)) in
    let kept = dedup_same _ (eq_by_cmp fault_cmp) _ (λ x y b f' x' y' k. search rules) _ _ c.dedup_by.ensures.filtered in
    subst (IsUnited fault_cmp c.args.faults.now.items) (sym kept)
    (united fault_cmp_total fault_ties c.args.faults.now.items c.sort_unstable_by.new.self.items c.sort_unstable_by.ensures.permutation
    sorted)

-- Lines are in a total order by a change and their keys, so they are sorted by it.
use Rattle.std.proofs.{lemmas.{Cmp.{back_total, nat_cmp_total, on_total, then_total}, List.Sorted.ranks_by}, Common.ℕ}
use Rattle.std.specs.{Cmp.{IsTotalOrder, IsStrictWeakOrder}, Ordering.is_lt, declared.cmp.Ordering.Ordering}
use Rattle.lc_changes.specs.Changes.{largest_first}
use Rattle.lc_sheet.specs.declared.column.Number.{Number}

pub ranks : {L : Type 0} (change : Number → L → ℕ) (order : L → L → Ordering) → IsTotalOrder order → (n : Number)
    → IsStrictWeakOrder (λ a b. is_lt (largest_first change order n a b))
ranks change order total n = ranks_by (then_total (on_total (change n) (back_total nat_cmp_total)) total) (λ l. l)

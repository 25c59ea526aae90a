-- What a binary search finds among elements whose keys rise, and what marks keep.
use Rattle.std.proofs.{Common.{arith, ◌≡◌, ℕ, ◌+◌, Bool, true, false, List, [], ◌∷◌, map, filter, length, get_or, Result, Ok, Err, cond}}
use Rattle.std.proofs.{Common.{refl, sym, ◌∙◌, ap, ⊎_elim}, lemmas.Bool.cases_lt}
use Rattle.std.proofs.{lemmas.{List.{Folds.{list_any_at, list_any_none}, Sorted.searchable_from_sorted}, Map.Keys.Less-from_sorted}}
use Rattle.std.specs.{Cmp.IsTotalOrder, List.{items_where_true, Sorted.{IsBinarySearchResult, IsSearchInRange, IsSortedBy}}}
use Rattle.std.specs.{Ordering.{eq_by_cmp, is_eq, is_lt, on, ordering_reverse}, Result.is_ok, declared.cmp.Ordering.Ordering}
use Rattle.lc_changes.proofs.Merging.{Rises}
use Rattle.lc_changes.specs.Merged.{has_key}

-- elements are kept by a test, or by its marks
pub kept_by_marks : {X : Type 0} (test : X → Bool) (xs : List X) → items_where_true (map test xs) xs ≡ filter test xs
kept_by_marks test [] = refl
kept_by_marks test (x ∷ xs) =
    elim (test x) as (λ b. items_where_true (b ∷ map test xs) (x ∷ xs) ≡ cond b (x ∷ filter test xs) (filter test xs))
    [ true ↦ ap (λ l. x ∷ l) (kept_by_marks test xs) | false ↦ kept_by_marks test xs ]

module _ {X K : Type 0} (key : X → K) (cmp : K → K → Ordering) (total : IsTotalOrder cmp) where
  sorted : (xs : List X) → Rises key cmp xs → IsSortedBy (λ a b. is_lt (cmp (key a) (key b))) xs
  sorted xs rises k d low high =
      ap is_lt (total.antisymm (key (get_or xs (k + 1) d)) (key (get_or xs k d))
      ∙ ap ordering_reverse (Less-from_sorted (on key cmp) xs k (k + 1) d rises (omega arith) high))

  same : (k : K) (x : X) (o : Ordering) → cmp (key x) k ≡ o → eq_by_cmp cmp k (key x) ≡ is_eq (ordering_reverse o)
  same k x o is = ap is_eq (total.antisymm k (key x) ∙ ap ordering_reverse is)

  pub searched : (k : K) (xs : List X) (r : Result ℕ ℕ) → Rises key cmp xs → IsSearchInRange r (length xs)
      → IsBinarySearchResult (λ x. cmp (key x) k) xs r → is_ok r ≡ has_key key (eq_by_cmp cmp k) xs
  searched k [] (Ok i) rises low equal = absurd (omega (arith, low))
  searched k (x ∷ xs) (Ok i) rises low equal =
      sym (list_any_at (λ y. eq_by_cmp cmp k (key y)) (x ∷ xs) i x low (same k (get_or (x ∷ xs) i x) _ (equal x)))
  searched k xs (Err i) rises low parted =
      let cut = parted (searchable_from_sorted total key xs k (sorted xs rises)) in
      sym (list_any_none (λ y. eq_by_cmp cmp k (key y)) xs (λ j d within.
      ⊎_elim (λ before. same k (get_or xs j d) _ (cut.0 j d (omega arith) before))
      (λ after. same k (get_or xs j d) _ (cut.1 j d after within)) (cases_lt j i)))

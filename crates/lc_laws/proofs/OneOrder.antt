-- Lists whose elements rise are the same if they have the same elements.
use Rattle.std.proofs.Common.{arith, ◌≡◌, ◌∙◌, ℕ, Bool, cond, List, [], ◌∷◌, map, filter, refl, sym, ap, subst, inl, inr, IsPermutation}
use Rattle.std.proofs.{Common.IsSortedByKey, lemmas.{Grind.common_steps, Cmp.nat_list_cmp_total}}
use Rattle.std.proofs.{lemmas.{List.Sorted.{Contains-permutation, IsPermutation-map, IsPermutation-sym}, Map.Keys.IsDistinct-from_sorted}}
use Rattle.std.specs.{Prelude.⊤, Cmp.IsTotalOrder, List.{AllByRecursion, Sorted.IsStrictlySortedBy}, declared.cmp.Ordering.Ordering}
use Rattle.std.specs.declared.cmp.Ordering.TheVariants.{Less}
use Rattle.lc_tree.proofs.Sorting.{sorted_paths}
use Rattle.lc_tree.specs.ByteOrder.{AreInOrder, bytes_cmp}
use Rattle.lc_walk.proofs.Elements.{In, is_in, contains}
use Rattle.lc_laws.proofs.Elements.{of_each}

module _ {X K : Type 0} (key : X → K) (cmp : K → K → Ordering) (total : IsTotalOrder cmp) where
  abbrev pub IsBelow : X → X → Type 0
  IsBelow x y = cmp (key x) (key y) ≡ Less

  abbrev pub Rises : List X → Type 0
  Rises [] = ⊤
  Rises (x ∷ xs) = AllByRecursion (IsBelow x) xs × Rises xs

  below_each : (x : X) (xs : List X) → AllByRecursion (λ k. cmp (key x) k ≡ Less) (map key xs) → AllByRecursion (IsBelow x) xs
  below_each x [] all = tt
  below_each x (y ∷ ys) all = (all.0, below_each x ys all.1)

  pub rises : (xs : List X) → IsStrictlySortedBy cmp (map key xs) → Rises xs
  unfolding IsStrictlySortedBy
  rises [] order = tt
  rises (x ∷ xs) order = (below_each x xs order.0, rises xs order.1)

  first_same : (x y : X) (xs ys : List X) → AllByRecursion (IsBelow x) xs → AllByRecursion (IsBelow y) ys → In x (y ∷ ys)
      → In y (x ∷ xs) → x ≡ y
  first_same x y xs ys above_x above_y is j = grind (arith, common_steps, of_each)

  -- what is in both is in the rest of both
  in_rest : (x y z : X) (xs ys : List X) → x ≡ y → AllByRecursion (IsBelow x) xs → In z xs → In z (y ∷ ys) → In z ys
  in_rest x y z xs ys same above i is = grind (arith, common_steps, of_each)

  one_order : (xs ys : List X) → Rises xs → Rises ys → ((z : X) → In z xs → In z ys) → ((z : X) → In z ys → In z xs) → xs ≡ ys
  one_order [] [] rx ry there back = refl
  one_order [] (y ∷ ys) rx ry there back = absurd (back y (inl refl))
  one_order (x ∷ xs) [] rx ry there back = absurd (there x (inl refl))
  one_order (x ∷ xs) (y ∷ ys) rx ry there back =
      let first : x ≡ y = first_same x y xs ys rx.0 ry.0 (there x (inl refl)) (back y (inl refl)) in
      let rest : xs ≡ ys = one_order xs ys rx.1 ry.1 (λ z i. in_rest x y z xs ys first rx.0 i (there z (inr i)))
      (λ z i. in_rest y x z ys xs (sym first) ry.0 i (back z (inr i))) in
      λ i. first i ∷ rest i

  -- lists whose keys rise
  pub risen_same : (xs ys : List X) → IsStrictlySortedBy cmp (map key xs) → IsStrictlySortedBy cmp (map key ys)
      → ((z : X) → In z xs → In z ys) → ((z : X) → In z ys → In z xs) → xs ≡ ys
  risen_same xs ys order_x order_y there back = one_order xs ys (rises xs order_x) (rises ys order_y) there back

  -- fewer keys rise too
  if_kept : (P : K → Type 0) (b : Bool) (x : X) (xs : List X) → P (key x) → AllByRecursion P (map key xs)
      → AllByRecursion P (map key (cond b (x ∷ xs) xs))
  if_kept P b x xs first rest = grind (arith, common_steps)

  all_filtered : (P : K → Type 0) (p : X → Bool) (xs : List X) → AllByRecursion P (map key xs) → AllByRecursion P (map key (filter p xs))
  all_filtered P p [] all = tt
  all_filtered P p (x ∷ xs) all = if_kept P (p x) x (filter p xs) all.0 (all_filtered P p xs all.1)

  rises_if_kept : (b : Bool) (x : X) (xs : List X) → AllByRecursion (λ k. cmp (key x) k ≡ Less) (map key xs)
      → IsStrictlySortedBy cmp (map key xs) → IsStrictlySortedBy cmp (map key (cond b (x ∷ xs) xs))
  unfolding IsStrictlySortedBy
  rises_if_kept b x xs above rest = grind (arith, common_steps)

  pub filtered_risen : (p : X → Bool) (xs : List X) → IsStrictlySortedBy cmp (map key xs) → IsStrictlySortedBy cmp (map key (filter p xs))
  unfolding IsStrictlySortedBy
  filtered_risen p [] order = tt
  filtered_risen p (x ∷ xs) order =
      rises_if_kept (p x) x (filter p xs) (all_filtered (λ k. cmp (key x) k ≡ Less) p xs order.0) (filtered_risen p xs order.1)

-- lines in order of their paths are the same as the sorted ones
pub same_sorted : {X : Type 0} (path : X → List ℕ) (xs ys : List X) → AreInOrder (map path xs) → IsPermutation xs ys
    → IsSortedByKey path bytes_cmp ys → ys ≡ xs
same_sorted path xs ys order moved sorted =
    sym (risen_same path bytes_cmp nat_list_cmp_total xs ys order
    (sorted_paths path xs ys moved sorted (IsDistinct-from_sorted bytes_cmp (map path xs) order))
    (λ z i. is_in z ys (Contains-permutation xs ys z moved (contains z xs i)))
    (λ z i. is_in z xs (Contains-permutation ys xs z (IsPermutation-sym xs ys moved) (contains z ys i))))

paths_of_texts : {X T : Type 0} (show : X → T) (path : X → List ℕ) (path_in : T → List ℕ) → ((x : X) → path_in (show x) ≡ path x)
    → (xs : List X) → map path_in (map show xs) ≡ map path xs
paths_of_texts show path path_in same [] = refl
paths_of_texts show path path_in same (x ∷ xs) = grind (arith, common_steps, paths_of_texts show path path_in same xs)

-- and lines of which texts show the paths have the same texts, where lines in another order have these
pub risen_texts : {X T : Type 0} (show : X → T) (path : X → List ℕ) (path_in : T → List ℕ) → ((x : X) → path_in (show x) ≡ path x)
    → (xs listed ys : List X) → AreInOrder (map path xs) → map show listed ≡ map show xs → IsPermutation listed ys
    → IsSortedByKey path bytes_cmp ys → map show ys ≡ map show xs
risen_texts show path path_in same xs listed ys order shown moved sorted =
    let paths : map path listed ≡ map path xs =
    sym (paths_of_texts show path path_in same listed) ∙ ap (map path_in) shown ∙ paths_of_texts show path path_in same xs in
    let listed_order : AreInOrder (map path listed) = subst AreInOrder (sym paths) order in
    let ys_order : AreInOrder (map path ys) =
    sorted_paths path listed ys moved sorted (IsDistinct-from_sorted bytes_cmp (map path listed) listed_order) in
    let texts_moved = IsPermutation-map show listed ys moved in
    let there : (z : _) → In z (map show xs) → In z (map show ys) = λ z i.
    is_in z (map show ys) (Contains-permutation (map show listed) (map show ys) z texts_moved
    (contains z (map show listed) (subst (In z) (sym shown) i))) in
    let back : (z : _) → In z (map show ys) → In z (map show xs) = λ z i.
    subst (In z) shown (is_in z (map show listed) (Contains-permutation (map show ys) (map show listed) z
    (IsPermutation-sym (map show listed) (map show ys) texts_moved) (contains z (map show ys) i))) in
    sym (risen_same path_in bytes_cmp nat_list_cmp_total (map show xs) (map show ys)
    (subst AreInOrder (sym (paths_of_texts show path path_in same xs)) order)
    (subst AreInOrder (sym (paths_of_texts show path path_in same ys)) ys_order) there back)

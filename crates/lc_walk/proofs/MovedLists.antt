-- Lists that the elements of a list give, after these change places.
use Rattle.std.proofs.lemmas.Grind.{common_steps}
use Rattle.std.proofs.lemmas.List.{Sums.sum_by-cons, Folds.flat_map-map}
use Rattle.std.proofs.lemmas.List.Sorted.{IsPermutation-refl, IsPermutation-swap, IsPermutation-keeps, sum_by-IsPermutation}
use Rattle.std.proofs.lemmas.List.Sorted.{length_permutation}
use Rattle.std.proofs.lemmas.List.{length-map}
use Rattle.std.proofs.Common.{◌≡◌, ℕ, zero, suc, ◌+◌, ◌<◌, List, [], ◌∷◌, length, get_or, map, refl, sym, ◌∙◌, ap, subst, arith}
use Rattle.std.proofs.Common.{IsPermutation, slice_set, swap, sum_by}
use Rattle.std.specs.List.{flat_map}
use Rattle.lc_board.proofs.Weights.{weigh, times, only, permuted_lists}

module _ {A B : Type 0} (f : A → B) where
  map_set : (xs : List A) (i : ℕ) (v : A) → map f (slice_set xs i v) ≡ slice_set (map f xs) i (f v)
  map_set [] i v = refl
  map_set (x ∷ xs) zero v = refl
  map_set (x ∷ xs) (suc i) v = ap (λ l. f x ∷ l) (map_set xs i v)

  map_swap : (xs : List A) (i j : ℕ) → map f (swap xs i j) ≡ swap (map f xs) i j
  map_swap xs i j = grind (arith, common_steps, map_set)

sums : {A : Type 0} (f : A → ℕ) (xs : List A) → weigh f xs ≡ sum_by f xs
sums f [] = refl
sums f (x ∷ xs) = ap (λ n. f x + n) (sums f xs) ∙ sym (sum_by-cons f x xs)

-- each number stands in both as often
pub times_moved : (xs ys : List ℕ) → IsPermutation xs ys → (p : ℕ) → times p ys ≡ times p xs
times_moved xs ys moved p = sums (only p 1) ys ∙ sum_by-IsPermutation (only p 1) xs ys moved ∙ sym (sums (only p 1) xs)

-- the places of a list
abbrev places : {A : Type 0} → List A → List ℕ
places [] = []
places (x ∷ xs) = 0 ∷ map suc (places xs)

map_map : {A B C : Type 0} (g : B → C) (f : A → B) (xs : List A) → map g (map f xs) ≡ map (λ x. g (f x)) xs
map_map g f [] = refl
map_map g f (x ∷ xs) = ap (λ l. g (f x) ∷ l) (map_map g f xs)

at_places : {A : Type 0} (d : A) (xs : List A) → map (λ k. get_or xs k d) (places xs) ≡ xs
at_places d [] = refl
at_places d (x ∷ xs) = ap (λ l. x ∷ l) (map_map (λ k. get_or (x ∷ xs) k d) suc (places xs) ∙ at_places d xs)

module _ {A B : Type 0} (f : A → List B) where
  -- a list whose elements are those at some places of xs, each place as often as in xs
  record Picks (d : A) (xs l : List A) : Type 0 where
    pub at : List ℕ
    pub is : l ≡ map (λ k. get_or xs k d) at
    pub same : (p : ℕ) → times p at ≡ times p (places xs)

  step : (d : A) (xs l : List A) (i j : ℕ) → i < length l → j < length l → Picks d xs l → Picks d xs (swap l i j)
  step d xs l i j b c p =
      let long : length l ≡ length p.at = ap length p.is ∙ length-map p.at (λ k. get_or xs k d) in
      record {
        at = swap p.at i j;
        is = ap (λ m. swap m i j) p.is ∙ sym (map_swap (λ k. get_or xs k d) p.at i j);
        same = λ q. times_moved p.at (swap p.at i j) (IsPermutation-swap p.at (swap p.at i j) i j (omega arith) (omega arith) refl) q
            ∙ p.same q;
      }

  picks : (d : A) (xs ys : List A) → IsPermutation xs ys → Picks d xs ys
  picks d xs ys moved = IsPermutation-keeps xs (Picks d xs) (record { at = places xs; is = sym (at_places d xs); same = λ p. refl })
      (step d xs) ys moved

  none_left : (ys : List A) → length ys ≡ 0 → ys ≡ []
  none_left ys e = grind (arith, common_steps)

  -- what they give is the same, up to the order
  pub lists_moved : (xs ys : List A) → IsPermutation xs ys → IsPermutation (flat_map f xs) (flat_map f ys)
  lists_moved [] ys moved =
      subst (λ l. IsPermutation [] (flat_map f l)) (sym (none_left ys (length_permutation [] ys moved))) (IsPermutation-refl [])
  lists_moved (d ∷ xs) ys moved =
      let p = picks d (d ∷ xs) ys moved in
      let get : ℕ → A = λ k. get_or (d ∷ xs) k d in
      let first : flat_map (λ k. f (get k)) (places (d ∷ xs)) ≡ flat_map f (d ∷ xs) = sym (flat_map-map f get (places (d ∷ xs)))
      ∙ ap (flat_map f) (at_places d (d ∷ xs)) in
      let last : flat_map (λ k. f (get k)) p.at ≡ flat_map f ys = sym (flat_map-map f get p.at) ∙ ap (flat_map f) (sym p.is) in
      subst (λ l. IsPermutation l (flat_map f ys)) first
      (subst (IsPermutation (flat_map (λ k. f (get k)) (places (d ∷ xs)))) last
      (permuted_lists (λ k. f (get k)) (places (d ∷ xs)) p.at (λ q. sym (p.same q))))

-- What the first of rising elements that isn't before a place tells of all.
use Rattle.std.proofs.Common.{◌≡◌, ℕ, zero, suc, ◌<◌, ◌≤◌, Bool, true, false, ◌||◌, List, [], ◌∷◌, ◌++◌, length, get_or, map, refl, ◌∙◌}
use Rattle.std.proofs.{Common.{ap, Bor, arith, bytes_eq}, lemmas.Map.Keys.{sorted_head, sorted_tail}}
use Rattle.std.specs.{declared.cmp.Ordering.TheVariants.Less, List.{list_any, AllByRecursion, Sorted.{IsPartitionedBy, IsPartitionPoint}}}
use Rattle.std.specs.Ordering.{is_lt}
use Rattle.lc_glob.specs.Bytes.{slash}
use Rattle.lc_level.specs.Narrowing.{stands_below}
use Rattle.lc_level.proofs.{AskedPaths.list_any-map, PathOrder.{falls, another, another_later, early_below, late_below}}
use Rattle.lc_tree.specs.ByteOrder.{bytes_cmp, AreInOrder}

-- what `partition_point` answers for elements of which those that come before a place stand in front
abbrev pub Halves : {X : Type 0} → (X → Bool) → List X → ℕ → Type 0
Halves before xs i = IsPartitionedBy before xs → IsPartitionPoint (λ x. before x ≡ true) (λ x. before x ≡ false) xs i

-- one of all passes where the one at a place does, and none where there is no such one
pub record Tells {X : Type 0} (test : X → Bool) (xs : List X) (i : ℕ) : Type 0 where
  pub here : (d : X) → i < length xs → list_any test xs ≡ test (get_or xs i d)
  pub nowhere : length xs ≤ i → list_any test xs ≡ false

-- the same of lent paths
pub record Searched (test : List ℕ → Bool) (paths : List (Bor (List ℕ))) (i : ℕ) : Type 0 where
  pub here : (d : Bor (List ℕ)) → i < length paths → list_any test (map (λ p. p.now) paths) ≡ test (get_or paths i d).now
  pub nowhere : length paths ≤ i → list_any test (map (λ p. p.now) paths) ≡ false

module _ {X : Type 0} (key : X → List ℕ) where
  -- a key that is below all is below that of each
  below_each : (a : List ℕ) (xs : List X) (j : ℕ) (d : X) → AllByRecursion (λ k. bytes_cmp a k ≡ Less) (map key xs) → j < length xs
      → bytes_cmp a (key (get_or xs j d)) ≡ Less
  below_each a [] j d all low = absurd (omega (arith, low))
  below_each a (x ∷ xs) zero d all low = all.0
  below_each a (x ∷ xs) (suc j) d all low = below_each a xs j d all.1 (omega (arith, low))

  module _ (before : X → Bool) (falls : (x y : X) → bytes_cmp (key x) (key y) ≡ Less → before y ≡ true → before x ≡ true) where
    -- those that are before a place stand in front
    pub in_front : (xs : List X) → AreInOrder (map key xs) → IsPartitionedBy before xs
    in_front [] order i j d le low = absurd (omega (arith, low))
    in_front (x ∷ xs) order zero zero d le low = λ h. h
    in_front (x ∷ xs) order zero (suc j) d le low =
        falls x (get_or xs j d) (below_each (key x) xs j d (sorted_head bytes_cmp (key x) (map key xs) order) (omega (arith, low)))
    in_front (x ∷ xs) order (suc i) zero d le low = absurd (omega (arith, le))
    in_front (x ∷ xs) order (suc i) (suc j) d le low =
        in_front xs (sorted_tail bytes_cmp (key x) (map key xs) order) i j d (omega (arith, le)) (omega (arith, low))

  -- a test that none before the place passes; and where the first that isn't fails, so do those after it
  module _ (before test : X → Bool) (early : (x : X) → before x ≡ true → test x ≡ false)
      (late : (x y : X) → bytes_cmp (key x) (key y) ≡ Less → before x ≡ false → test x ≡ false → test y ≡ false) where
    none_later : (x : X) (xs : List X) → AllByRecursion (λ k. bytes_cmp (key x) k ≡ Less) (map key xs) → before x ≡ false
        → test x ≡ false → list_any test xs ≡ false
    none_later x [] all past fails = refl
    none_later x (y ∷ ys) all past fails =
        ap (λ b. b || list_any test ys) (late x y all.0 past fails) ∙ none_later x ys all.1 past fails

    first_tells : (x : X) (xs : List X) → AllByRecursion (λ k. bytes_cmp (key x) k ≡ Less) (map key xs) → before x ≡ false
        → (test x || list_any test xs) ≡ test x
    first_tells x xs all past = at (test x) refl
      where
        at : (b : Bool) → test x ≡ b → (b || list_any test xs) ≡ b
        at true passes = refl
        at false fails = none_later x xs all past fails

    by_first : (xs : List X) (i : ℕ) (d : X) → AreInOrder (map key xs) → i < length xs
        → ((k : ℕ) (e : X) → k < i → before (get_or xs k e) ≡ true) → before (get_or xs i d) ≡ false
        → list_any test xs ≡ test (get_or xs i d)
    by_first [] i d order low front past = absurd (omega (arith, low))
    by_first (x ∷ xs) zero d order low front past = first_tells x xs (sorted_head bytes_cmp (key x) (map key xs) order) past
    by_first (x ∷ xs) (suc i) d order low front past =
        ap (λ b. b || list_any test xs) (early x (front 0 x (omega arith)))
        ∙ by_first xs i d (sorted_tail bytes_cmp (key x) (map key xs) order) (omega (arith, low))
        (λ k e lt. front (suc k) e (omega (arith, lt))) past

    by_none : (xs : List X) → ((k : ℕ) (e : X) → k < length xs → before (get_or xs k e) ≡ true) → list_any test xs ≡ false
    by_none [] front = refl
    by_none (x ∷ xs) front =
        ap (λ b. b || list_any test xs) (early x (front 0 x (omega arith)))
        ∙ by_none xs (λ k e lt. front (suc k) e (omega (arith, lt)))

    -- the place of the first that isn't before it: one passes where this one does, and none where there is no such one
    pub tells : ((x y : X) → bytes_cmp (key x) (key y) ≡ Less → before y ≡ true → before x ≡ true) → (xs : List X) (i : ℕ)
        → AreInOrder (map key xs) → Halves before xs i → Tells test xs i
    tells falls xs i order search =
        let parts = search (in_front before falls xs order) in
        record {
          here = λ d low. by_first xs i d order low (λ k e lt. parts.0 k e (omega arith) lt) (parts.1 i d (omega arith) low);
          nowhere = λ past. by_none xs (λ k e lt. parts.0 k e (omega arith) (omega (arith, lt, past)));
        }

-- ---- lent paths

abbrev lent : Bor (List ℕ) → List ℕ
lent p = p.now

-- whether a lent path is below another
abbrev pub precedes : List ℕ → Bor (List ℕ) → Bool
precedes path p = is_lt (bytes_cmp p.now path)

module _ (paths : List (Bor (List ℕ))) (order : AreInOrder (map (λ (p : Bor (List ℕ)). p.now) paths)) (path : List ℕ) (i : ℕ) where
  over : (test : List ℕ → Bool) → Tells (λ (p : Bor (List ℕ)). test p.now) paths i → Searched test paths i
  over test t = record {
    here = λ d low. list_any-map test lent paths ∙ t.here d low;
    nowhere = λ past. list_any-map test lent paths ∙ t.nowhere past;
  }

  -- a search for a path
  pub finds : Halves (precedes path) paths i → Searched (bytes_eq path) paths i
  finds search =
      over (bytes_eq path)
      (tells lent _ _ (λ x. another path x.now) (λ x y less past fails. another_later path x.now y.now less past)
      (λ x y. falls path x.now y.now) paths i order search)

  -- a search for the first that doesn't come before those below a path
  pub finds_below : Halves (precedes (path ++ slash ∷ [])) paths i → Searched (λ p. stands_below p path) paths i
  finds_below search =
      over (λ p. stands_below p path)
      (tells lent _ _ (λ x. early_below path x.now) (λ x y. late_below path x.now y.now) (λ x y. falls (path ++ slash ∷ []) x.now y.now)
      paths i order search)

-- Paths in the order of their bytes, each once.
use Rattle.std.proofs.Common.{◌≡◌, ℕ, Bool, true, false, ◌||◌, cond, List, [], ◌∷◌, map, refl, sym, ◌∙◌, ap, subst, bytes_eq, Contains}
use Rattle.std.proofs.lemmas.Cmp.{nat_list_cmp_total, nat_list_eq_equiv}
use Rattle.std.proofs.lemmas.List.{Folds.Any-from_list_any, Kept.IsStrictlySortedBy-dedup, Sorted.list_any-IsPermutation}
use Rattle.std.proofs.lemmas.Map.{Text.is_eq-slice_cmp, Views.list_any-from_Contains}
use Rattle.std.specs.{Borrow.Bor, declared.cmp.Ordering.{Ordering, TheVariants.{Less, Equal, Greater}}, List.{list_any, dedup, dedup_from}}
use Rattle.std.specs.{List.{AllByRecursion, Sorted.{IsStrictlySortedBy, IsSorted, IsPermutation}}, Ordering.{is_lt, is_eq, on}}
use Rattle.std.specs.{Ordering.ordering_reverse, Cmp.Lexicographic.on_texts}
use Rattle.lc_level.specs.Narrowing.{put_among, each_once}
use Rattle.lc_level.proofs.{AskedPaths.{list_any-map, any_once}, PathOrder.less_true, WellFormed.same_bytes}
use Rattle.lc_tree.specs.ByteOrder.{bytes_cmp, AreInOrder}
use Rattle.lc_tree.proofs.OneOrder.{one_order}

-- ---- they rise

above : (o : Ordering) → is_lt o ≡ false → is_eq o ≡ false → ordering_reverse o ≡ Less
above Less e f = absurd (cc e)
above Equal e f = absurd (cc f)
above Greater e f = refl

below_all : (x y : List ℕ) (ps : List (List ℕ)) → bytes_cmp x y ≡ Less → AllByRecursion (λ p. bytes_cmp y p ≡ Less) ps
    → AllByRecursion (λ p. bytes_cmp x p ≡ Less) ps
below_all x y [] less all = tt
below_all x y (p ∷ ps) less all = (nat_list_cmp_total.trans x y p less all.0, below_all x y ps less all.1)

-- what holds of a path and of all others holds of all with this path
pub each_put : (P : List ℕ → Type 0) (path : List ℕ) (ps : List (List ℕ)) → P path → AllByRecursion P ps
    → AllByRecursion P (put_among path ps)
each_put P path [] one all = (one, tt)
each_put P path (p ∷ ps) one all = at (is_lt (bytes_cmp path p)) (bytes_eq path p) (each_put P path ps one all.1)
  where
    at : (less same : Bool) → AllByRecursion P (put_among path ps)
        → AllByRecursion P (cond less (path ∷ p ∷ ps) (p ∷ cond same ps (put_among path ps)))
    at true same more = (one, all)
    at false true more = all
    at false false more = (all.0, more)

put_in_order : (path : List ℕ) (ps : List (List ℕ)) → AreInOrder ps → AreInOrder (put_among path ps)
unfolding IsStrictlySortedBy
put_in_order path [] order = (tt, tt)
put_in_order path (p ∷ ps) order = at (is_lt (bytes_cmp path p)) refl (bytes_eq path p) refl (put_in_order path ps order.1)
  where
    at : (less : Bool) → is_lt (bytes_cmp path p) ≡ less → (same : Bool) → bytes_eq path p ≡ same → AreInOrder (put_among path ps)
        → AreInOrder (cond less (path ∷ p ∷ ps) (p ∷ cond same ps (put_among path ps)))
    at true less same e more =
        let is : bytes_cmp path p ≡ Less = less_true (bytes_cmp path p) less in
        ((is, below_all path p ps is order.0), order)
    at false less true e more = order
    at false less false e more = (
      each_put (λ q. bytes_cmp p q ≡ Less) path ps
          (nat_list_cmp_total.antisymm p path ∙ above (bytes_cmp path p) less (is_eq-slice_cmp path p ∙ e)) order.0,
      more,
    )

pub once_in_order : (paths : List (List ℕ)) → AreInOrder (each_once paths)
unfolding IsStrictlySortedBy
once_in_order [] = tt
once_in_order (path ∷ paths) = put_in_order path (each_once paths) (once_in_order paths)

-- ---- they are the only such paths

same_list : (xs : List (List ℕ)) → map (λ x. x) xs ≡ xs
same_list [] = refl
same_list (x ∷ xs) = ap (λ l. x ∷ l) (same_list xs)

among : (z : List ℕ) (xs : List (List ℕ)) → list_any (bytes_eq z) xs ≡ true → Contains xs z
among z xs e =
    let a = Any-from_list_any (bytes_eq z) xs e in
    subst (Contains xs) (sym (same_bytes z a.1 a.4)) (a.0, a.2, a.3)

has : (z : List ℕ) (xs : List (List ℕ)) → Contains xs z → list_any (bytes_eq z) xs ≡ true
has z xs c = list_any-from_Contains nat_list_eq_equiv z xs c

-- rising paths of which one passes a test just where one of others does are these others, each once
rising_are_once : (xs paths : List (List ℕ)) → AreInOrder xs → ((q : List ℕ → Bool) → list_any q xs ≡ list_any q paths)
    → xs ≡ each_once paths
rising_are_once xs paths order alike =
    one_order (λ x. x) xs (each_once paths) (subst AreInOrder (sym (same_list xs)) order)
    (subst AreInOrder (sym (same_list (each_once paths))) (once_in_order paths))
    (λ z c. among z (each_once paths) (any_once (bytes_eq z) paths ∙ sym (alike (bytes_eq z)) ∙ has z xs c))
    (λ z c. among z xs (alike (bytes_eq z) ∙ sym (any_once (bytes_eq z) paths) ∙ has z (each_once paths) c))

-- ---- and what sorting lent paths and dropping those that stand twice makes

lent_in_order : (xs : List (Bor (List ℕ))) → IsStrictlySortedBy (on (λ (p : Bor (List ℕ)). p.now) bytes_cmp) xs
    → AreInOrder (map (λ (p : Bor (List ℕ)). p.now) xs)
unfolding IsStrictlySortedBy
lent_in_order [] order = tt
lent_in_order (x ∷ xs) order = (each xs order.0, lent_in_order xs order.1)
  where
    each : (ys : List (Bor (List ℕ))) → AllByRecursion (λ (y : Bor (List ℕ)). bytes_cmp x.now y.now ≡ Less) ys
        → AllByRecursion (λ y. bytes_cmp x.now y ≡ Less) (map (λ (p : Bor (List ℕ)). p.now) ys)
    each [] all = tt
    each (y ∷ ys) all = (all.0, each ys all.1)

-- the same paths
abbrev pub same : Bor (List ℕ) → Bor (List ℕ) → Bool
same x y = bytes_eq x.now y.now

module _ (q : List ℕ → Bool) where
  abbrev lent : Bor (List ℕ) → Bool
  lent x = q x.now

  any_from : (k : Bor (List ℕ)) (xs : List (Bor (List ℕ))) → list_any lent (dedup_from same k xs) ≡ (lent k || list_any lent xs)
  any_from k [] = refl
  any_from k (x ∷ xs) = at (same x k) refl (any_from k xs) (any_from x xs)
    where
      twice : (a b : Bool) → (a || b) ≡ (a || (a || b))
      twice true b = refl
      twice false b = refl

      at : (b : Bool) → same x k ≡ b → list_any lent (dedup_from same k xs) ≡ (lent k || list_any lent xs)
          → list_any lent (dedup_from same x xs) ≡ (lent x || list_any lent xs)
          → list_any lent (cond b (dedup_from same k xs) (k ∷ dedup_from same x xs)) ≡ (lent k || (lent x || list_any lent xs))
      at true e one other =
          one ∙ twice (lent k) (list_any lent xs)
          ∙ ap (λ (t : List ℕ). lent k || (q t || list_any lent xs)) (sym (same_bytes x.now k.now e))
      at false e one other = ap (λ b. lent k || b) other

  any_dropped : (xs : List (Bor (List ℕ))) → list_any lent (dedup same xs) ≡ list_any lent xs
  any_dropped [] = refl
  any_dropped (x ∷ xs) = any_from x xs

-- lent paths, sorted, of which no path stands twice
pub sorted_are_once : (asked sorted : List (Bor (List ℕ))) → IsPermutation asked sorted
    → IsSorted (on (λ (p : Bor (List ℕ)). p.now) bytes_cmp) sorted
    → map (λ (p : Bor (List ℕ)). p.now) (dedup same sorted) ≡ each_once (map (λ (p : Bor (List ℕ)). p.now) asked)
sorted_are_once asked sorted moved order =
    rising_are_once _ _
    (lent_in_order (dedup same sorted)
    (IsStrictlySortedBy-dedup (on_texts (λ (p : Bor (List ℕ)). p.now)) (λ x y. sym (is_eq-slice_cmp x.now y.now)) sorted order))
    (λ q. list_any-map q (λ (p : Bor (List ℕ)). p.now) (dedup same sorted) ∙ any_dropped q sorted
    ∙ sym (list_any-IsPermutation (λ (p : Bor (List ℕ)). q p.now) asked sorted moved)
    ∙ sym (list_any-map q (λ (p : Bor (List ℕ)). p.now) asked))

-- Sorted paths seen from a directory: those that come before its own are skipped, and what follows these is none of them.
use Rattle.std.proofs.Common.{◌≡◌, ℕ, zero, suc, Bool, true, false, List, [], ◌∷◌, length, map, drop, refl, sym, ◌∙◌, ap, subst, Option}
use Rattle.std.proofs.Common.{Some, None, option_map}
use Rattle.std.proofs.{Common.{Bor, arith}, lemmas.Map.Keys.sorted_head}
use Rattle.std.specs.List.{filter_map, cons_option, AllByRecursion, Sorted.{IsPartitionPoint, IsStrictlySortedBy}}
use Rattle.std.specs.Option.{is_none, is_some}
use Rattle.lc_level.specs.{Narrowing.rest_from, PathSteps.comes_before}
use Rattle.lc_level.proofs.PathOrder.{early_rest, none_seen}
use Rattle.lc_tree.specs.ByteOrder.{bytes_cmp, AreInOrder}

abbrev pub lent : List (Bor (List ℕ)) → List (List ℕ)
lent paths = map (λ path. path.now) paths

-- what is left of paths in order is in order
pub order_left : (i : ℕ) (paths : List (Bor (List ℕ))) → AreInOrder (lent paths) → AreInOrder (lent (drop i paths))
unfolding IsStrictlySortedBy
order_left zero paths order = order
order_left (suc i) [] order = order
order_left (suc i) (path ∷ paths) order = order_left i paths order.1

each_skipped : (P : List ℕ → Type 0) (i : ℕ) (paths : List (Bor (List ℕ))) → AllByRecursion P (lent paths)
    → AllByRecursion P (lent (drop i paths))
each_skipped P zero paths all = all
each_skipped P (suc i) [] all = all
each_skipped P (suc i) (path ∷ paths) all = each_skipped P i paths all.1

module _ (d : List ℕ) where
  -- what is seen of some paths
  abbrev pub seen : List (Bor (List ℕ)) → List (List ℕ)
  seen paths = filter_map (rest_from d) (lent paths)

  abbrev pub IsPlace : List (Bor (List ℕ)) → ℕ → Type 0
  IsPlace paths i =
      IsPartitionPoint (λ (p : Bor (List ℕ)). comes_before d p.now ≡ true) (λ (p : Bor (List ℕ)). comes_before d p.now ≡ false) paths i

  -- the paths that come first are not seen
  pub skipped : (paths : List (Bor (List ℕ))) (i : ℕ) → IsPlace paths i → seen (drop i paths) ≡ seen paths
  skipped paths zero parts = refl
  skipped [] (suc i) parts = refl
  skipped (path ∷ paths) (suc i) parts =
      skipped paths i (
        (λ k e low lt. parts.0 (suc k) e (omega arith) (omega (arith, lt))),
        (λ k e low lt. parts.1 (suc k) e (omega (arith, low)) (omega (arith, lt))),
      )
      ∙ sym (ap (λ o. cons_option o (seen paths)) (early_rest d path.now (parts.0 0 path (omega arith) (omega arith))))

  -- none of the others does
  pub past_left : (paths : List (Bor (List ℕ))) (i : ℕ) → IsPlace paths i
      → AllByRecursion (λ path. comes_before d path ≡ false) (lent (drop i paths))
  past_left [] zero parts = tt
  past_left [] (suc i) parts = tt
  past_left (path ∷ paths) zero parts = (
    parts.1 0 path (omega arith) (omega arith),
    past_left paths zero
        ((λ k e low lt. absurd (omega (arith, lt))), (λ k e low lt. parts.1 (suc k) e (omega arith) (omega (arith, lt)))),
  )
  past_left (path ∷ paths) (suc i) parts =
      past_left paths i (
        (λ k e low lt. parts.0 (suc k) e (omega arith) (omega (arith, lt))),
        (λ k e low lt. parts.1 (suc k) e (omega (arith, low)) (omega (arith, lt))),
      )

  module _ (paths : List (Bor (List ℕ))) (i : ℕ) (path : Bor (List ℕ)) (others : List (Bor (List ℕ)))
      (left : drop i paths ≡ path ∷ others) where
    -- from the first that isn't seen on none is
    pub none_left : AreInOrder (lent paths) → AllByRecursion (λ p. comes_before d p ≡ false) (lent paths) → rest_from d path.now ≡ None
        → seen (drop i paths) ≡ []
    none_left order past none =
        ap seen left ∙ ap (λ o. cons_option o (seen others)) none
        ∙ none_seen d path.now (lent others)
        (sorted_head bytes_cmp path.now (lent others) (subst (λ ps. AreInOrder (lent ps)) left (order_left i paths order)))
        (subst (λ ps. AllByRecursion (λ p. comes_before d p ≡ false) (lent ps)) left
        (each_skipped (λ p. comes_before d p ≡ false) i paths past)).0 none

-- the lent paths that are given
abbrev pub lent_option : Option (Bor (List (Bor (List ℕ)))) → Option (List (List ℕ))
lent_option asked = option_map (λ paths. lent paths.now) asked

-- some are lent where some are given
pub some_lent : (asked : Option (Bor (List (Bor (List ℕ))))) → true ≡ is_some asked → is_none (lent_option asked) ≡ false
some_lent None is = let h : true ≡ false = is in absurd (cc h)
some_lent (Some paths) is = refl

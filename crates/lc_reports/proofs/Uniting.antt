-- Lines that are sorted, and then kept once each.
use Rattle.std.proofs.{Common.{◌≡◌, List, ◌++◌, refl, IsPermutation, ⊎_elim}, lemmas.Cmp.eq_by_cmp_equiv}
use Rattle.std.proofs.lemmas.List.Elements.{Contains-append_cases, Contains-append_left, Contains-append_right}
use Rattle.std.proofs.lemmas.List.Kept.{Contains-dedup, Contains-from_dedup, IsStrictlySortedBy-dedup}
use Rattle.std.proofs.lemmas.List.Sorted.{Contains-permutation, IsPermutation-sym}
use Rattle.std.specs.{Cmp.IsTotalOrder, List.{dedup, Sorted.IsSorted}, Ordering.eq_by_cmp, declared.cmp.Ordering.Ordering}
use Rattle.std.specs.declared.cmp.Ordering.TheVariants.{Equal}
use Rattle.lc_reports.specs.Joined.{IsUnited}
use Rattle.lc_walk.proofs.Keys.{equal_if}

module _ {X : Type 0} {cmp : X → X → Ordering} where
  -- what is sorted in a total order, in which only what is the same ties, and then kept once each
  pub united : IsTotalOrder cmp → ((x y : X) → cmp x y ≡ Equal → x ≡ y) → (xs sorted : List X) → IsPermutation xs sorted
      → IsSorted cmp sorted → IsUnited cmp xs (dedup (eq_by_cmp cmp) sorted)
  united total same xs sorted moved order = record {
    kept = λ x has. Contains-dedup (eq_by_cmp_equiv total) (λ a b e. same a b (equal_if (cmp a b) e)) sorted x
        (Contains-permutation xs sorted x moved has);
    given = λ x has. Contains-permutation sorted xs x (IsPermutation-sym xs sorted moved)
        (Contains-from_dedup (eq_by_cmp cmp) sorted x has);
    order = IsStrictlySortedBy-dedup total (λ a b. refl) sorted order;
  }

  -- the same lines in another order
  pub united_permuted : (xs ys us : List X) → IsPermutation xs ys → IsUnited cmp xs us → IsUnited cmp ys us
  united_permuted xs ys us moved is = record {
    kept = λ x has. is.kept x (Contains-permutation ys xs x (IsPermutation-sym xs ys moved) has);
    given = λ x has. Contains-permutation xs ys x moved (is.given x has);
    order = is.order;
  }

  -- what some were united to, and others
  pub united_with : (xs ys part us : List X) → IsUnited cmp xs part → IsUnited cmp (part ++ ys) us → IsUnited cmp (xs ++ ys) us
  united_with xs ys part us first is = record {
    kept = λ x has. is.kept x (⊎_elim (λ a. Contains-append_left part ys x (first.kept x a)) (λ b. Contains-append_right part ys x b)
        (Contains-append_cases xs ys x has));
    given = λ x has. ⊎_elim (λ a. Contains-append_left xs ys x (first.given x a)) (λ b. Contains-append_right xs ys x b)
        (Contains-append_cases part ys x (is.given x has));
    order = is.order;
  }

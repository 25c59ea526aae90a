-- Lists with the same elements, in strict order of these elements' names, are the same list.
use Rattle.std.proofs.Common.{◌≡◌, ℕ, zero, suc, ◌⊎◌, inl, inr, List, [], ◌∷◌, map, Contains, refl, sym, ◌∙◌, ap, subst, arith}
use Rattle.std.proofs.lemmas.{Cmp.nat_list_cmp_total, List.Elements.{Contains-append_cases, Contains-append_right}}
use Rattle.std.proofs.lemmas.Map.Keys.{sorted_head, sorted_tail}
use Rattle.std.specs.{declared.cmp.Ordering.TheVariants.Less, Ordering.ordering_reverse, List.AllByRecursion}
use Rattle.lc_tree.specs.ByteOrder.{bytes_cmp, AreInOrder}

not_both : (a b : List ℕ) → bytes_cmp a b ≡ Less → bytes_cmp b a ≡ Less → ⊥
not_both a b less more = let turned : Less ≡ ordering_reverse Less = sym less
    ∙ (nat_list_cmp_total.antisymm a b ∙ ap ordering_reverse more) in cc

the_one : {X : Type 0} (x z : X) → Contains (x ∷ []) z → z ≡ x
the_one x z (zero, some, is) = sym is
the_one x z (suc k, some, is) = let no : ⊥ = omega (arith, some) in absurd no

module _ {X : Type 0} (name : X → List ℕ) where
  -- one of the first, or the first
  head_or_tail : (x : X) (xs : List X) (z : X) → Contains (x ∷ xs) z → (z ≡ x) ⊎ Contains xs z
  head_or_tail x xs z has = elim (Contains-append_cases (x ∷ []) xs z has) [ inl one ↦ inl (the_one x z one) | inr rest ↦ inr rest ]

  below_all : (x : X) (ys : List X) (z : X) → AllByRecursion (λ (k : List ℕ). bytes_cmp (name x) k ≡ Less) (map name ys)
      → Contains ys z → bytes_cmp (name x) (name z) ≡ Less
  below_all x [] z all has = let no : ⊥ = omega (arith, has.1) in absurd no
  below_all x (y ∷ ys) z all has =
      elim (head_or_tail y ys z has) [
        | inl is ↦ subst (λ (w : X). bytes_cmp (name x) (name w) ≡ Less)
            (sym is) all.0
        | inr rest ↦ below_all x ys z all.1 rest
      ]

  -- what is in both lists but their first is in both tails, since the first is below all after it
  in_tail : (x : X) (xs ys : List X) → AllByRecursion (λ (k : List ℕ). bytes_cmp (name x) k ≡ Less) (map name xs)
      → ((z : X) → Contains (x ∷ xs) z → Contains (x ∷ ys) z) → (z : X) → Contains xs z → Contains ys z
  in_tail x xs ys below into z has =
      elim (head_or_tail x ys z (into z (Contains-append_right (x ∷ []) xs z has))) [
        | inl is ↦ let less : bytes_cmp (name x) (name x) ≡ Less = subst (λ (w : X). bytes_cmp (name x) (name w) ≡ Less) is
            (below_all x xs z below has) in
            absurd (not_both (name x) (name x) less less)
        | inr rest ↦ rest
      ]

  same_head : (x y : X) (xs ys : List X) → AreInOrder (map name (x ∷ xs)) → AreInOrder (map name (y ∷ ys))
      → ((z : X) → Contains (x ∷ xs) z → Contains (y ∷ ys) z) → ((z : X) → Contains (y ∷ ys) z → Contains (x ∷ xs) z) → x ≡ y
  same_head x y xs ys first second into back =
      elim (head_or_tail y ys x (into x (0, omega arith, refl))) [
        | inl is ↦ is
        | inr later ↦ elim (head_or_tail x xs y (back y (0, omega arith, refl))) [
          | inl is ↦ sym is
          | inr late ↦ absurd (not_both (name x) (name y)
              (below_all x xs y (sorted_head bytes_cmp (name x) (map name xs) first) late)
              (below_all y ys x (sorted_head bytes_cmp (name y) (map name ys) second) later))
        ]
      ]

  -- such lists are the same
  pub one_order : (xs ys : List X) → AreInOrder (map name xs) → AreInOrder (map name ys)
      → ((z : X) → Contains xs z → Contains ys z) → ((z : X) → Contains ys z → Contains xs z) → xs ≡ ys
  one_order [] [] first second into back = refl
  one_order [] (y ∷ ys) first second into back = let no : ⊥ = omega (arith, (back y (0, omega arith, refl)).1) in absurd no
  one_order (x ∷ xs) [] first second into back = let no : ⊥ = omega (arith, (into x (0, omega arith, refl)).1) in absurd no
  one_order (x ∷ xs) (y ∷ ys) first second into back =
      let head = same_head x y xs ys first second into back in
      let into' : (z : X) → Contains (x ∷ xs) z
      → Contains (x ∷ ys) z = λ z has. subst (λ (w : X). Contains (w ∷ ys) z) (sym head) (into z has) in
      let back' : (z : X) → Contains (x ∷ ys) z → Contains (x ∷ xs) z = λ z has. back z (subst (λ (w : X). Contains (w ∷ ys) z) head has) in
      let above = sorted_head bytes_cmp (name y) (map name ys) second in
      ap (λ (l : List X). x ∷ l) (one_order xs ys (sorted_tail bytes_cmp (name x) (map name xs) first)
      (sorted_tail bytes_cmp (name y) (map name ys) second)
      (in_tail x xs ys (sorted_head bytes_cmp (name x) (map name xs) first) into')
      (in_tail x ys xs (subst (λ (w : X). AllByRecursion (λ (k : List ℕ). bytes_cmp (name w) k ≡ Less) (map name ys))
      (sym head) above) back'))
      ∙ ap (λ (w : X). w ∷ ys) head

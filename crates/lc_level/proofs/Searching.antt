-- What a binary search finds among entries in the order of their names.
use Rattle.std.proofs.Common.{◌≡◌, ℕ, zero, suc, ◌<◌, ◌≤◌, Bool, true, false, List, [], ◌∷◌, length, get_or, Option, Some, None, Result}
use Rattle.std.proofs.Common.{Ok, ◌&&◌, ◌||◌, subst, Err, MatchResult, refl, sym, ◌∙◌, ap, arith, bytes_eq, cond, find, ⊎_elim}
use Rattle.std.proofs.lemmas.{Map.{Keys.{sorted_head, sorted_tail}, Text.is_eq-slice_cmp}, Bool.cases_lt}
use Rattle.std.proofs.lemmas.Cmp.{nat_list_cmp_total, nat_list_eq_equiv}
use Rattle.std.specs.List.{list_any, AllByRecursion}
use Rattle.std.specs.{List.Sorted.{IsStrictlySortedBy, IsNonDecreasingBy, IsBinarySearchResult, IsSearchInRange}, Ordering.ordering_index}
use Rattle.std.specs.{Ordering.{ordering_reverse, is_eq}, declared.cmp.Ordering.{Ordering, TheVariants.{Less, Equal, Greater}}}
use Rattle.lc_tree.specs.{ByteOrder.{bytes_cmp, AreInOrder}, Listing.{EntryModel, names}, declared.entry.Kind.Kind}
use Rattle.lc_level.proofs.{AskedPaths.passes, PathOrder.not_itself, WellFormed.{other_bytes, same_bytes}}

index_few : (o : Ordering) → ordering_index o ≤ 2
index_few Less = omega arith
index_few Equal = omega arith
index_few Greater = omega arith

module _ (name : List ℕ) where
  abbrev pub order_of : EntryModel → Ordering
  order_of e = bytes_cmp e.name name

  abbrev pub is_named : EntryModel → Bool
  is_named e = bytes_eq e.name name

  named : (e : EntryModel) (o : Ordering) → order_of e ≡ o → is_named e ≡ is_eq o
  named e o is = sym (is_eq-slice_cmp e.name name) ∙ ap is_eq is

  -- what is below a name that is the one, or below it, is below the one
  below_same : (a b : List ℕ) → bytes_cmp a b ≡ Less → bytes_cmp b name ≡ Equal → bytes_cmp a name ≡ Less
  below_same a b less same =
      let back : bytes_cmp name b ≡ Equal = nat_list_cmp_total.antisymm name b ∙ ap ordering_reverse same in
      let more : bytes_cmp name a ≡ Greater = nat_list_cmp_total.congr name b a back ∙ nat_list_cmp_total.antisymm b a
      ∙ ap ordering_reverse less in
      nat_list_cmp_total.antisymm a name ∙ ap ordering_reverse more

  rises_at : (a b : List ℕ) (o : Ordering) → bytes_cmp a b ≡ Less → bytes_cmp b name ≡ o
      → ordering_index (bytes_cmp a name) ≤ ordering_index o
  rises_at a b Less less is =
      let at : ordering_index (bytes_cmp a name) ≡ 0 = ap ordering_index (nat_list_cmp_total.trans a b name less is) in omega (arith, at)
  rises_at a b Equal less is = let at : ordering_index (bytes_cmp a name) ≡ 0 = ap ordering_index (below_same a b less is) in omega
      (arith, at)
  rises_at a b Greater less is = index_few (bytes_cmp a name)

  later : (a : List ℕ) (es : List EntryModel) (j : ℕ) (d : EntryModel) → AllByRecursion (λ k. bytes_cmp a k ≡ Less) (names es)
      → j < length es
      → bytes_cmp a (get_or es j d).name ≡ Less
  later a [] j d all low = absurd (omega (arith, low))
  later a (e ∷ es) zero d all low = all.0
  later a (e ∷ es) (suc j) d all low = later a es j d all.1 (omega (arith, low))

  rises : (es : List EntryModel) → AreInOrder (names es) → IsNonDecreasingBy (λ e. ordering_index (order_of e)) es
  unfolding IsStrictlySortedBy
  rises [] order i j d le low = absurd (omega (arith, low))
  rises (e ∷ es) order zero zero d le low = omega arith
  rises (e ∷ es) order zero (suc j) d le low =
      rises_at e.name (get_or es j d).name (order_of (get_or es j d)) (later e.name es j d order.0 (omega (arith, low))) refl
  rises (e ∷ es) order (suc i) zero d le low = absurd (omega (arith, le))
  rises (e ∷ es) order (suc i) (suc j) d le low = rises es order.1 i j d (omega (arith, le)) (omega (arith, low))

  at_name : (p : Bool) (e : EntryModel) (rest : Option EntryModel) → p ≡ true → cond p (Some e) rest ≡ Some e
  at_name p e rest is = ap (λ b. cond b (Some e) rest) is

  past_name : (p : Bool) (e : EntryModel) (rest : Option EntryModel) → p ≡ false → cond p (Some e) rest ≡ rest
  past_name p e rest is = ap (λ b. cond b (Some e) rest) is

  found : (es : List EntryModel) (i : ℕ) (d : EntryModel) → AreInOrder (names es) → i < length es → order_of (get_or es i d) ≡ Equal
      → find is_named es ≡ Some (get_or es i d)
  unfolding IsStrictlySortedBy
  found [] i d order low is = absurd (omega (arith, low))
  found (e ∷ es) zero d order low is = at_name (is_named e) e (find is_named es) (named e Equal is)
  found (e ∷ es) (suc i) d order low is =
      let low_below : i < length es = omega (arith, low) in
      let less = below_same e.name (get_or es i d).name (later e.name es i d order.0 low_below) is in
      past_name (is_named e) e (find is_named es) (named e Less less) ∙ found es i d order.1 low_below is

  none_found : (es : List EntryModel) → ((k : ℕ) (d : EntryModel) → k < length es → is_named (get_or es k d) ≡ false)
      → find is_named es ≡ None
  none_found [] none = refl
  none_found (e ∷ es) none =
      past_name (is_named e) e (find is_named es) (none 0 e (omega arith)) ∙ none_found es (λ k d low. none (suc k) d (omega (arith, low)))

  -- what a search answers is the entry of the name
  pub searched : (es : List EntryModel) (r : Result ℕ ℕ) → AreInOrder (names es) → IsSearchInRange r (length es)
      → IsBinarySearchResult order_of es r
      → MatchResult r (λ i. (d : EntryModel) → find is_named es ≡ Some (get_or es i d)) (λ i. find is_named es ≡ None)
  searched es (Ok i) order low equal = λ d. found es i d order low (equal d)
  searched es (Err i) order low parted =
      let cut = parted (rises es order) in
      none_found es (λ k d within. ⊎_elim (λ before. named (get_or es k d) Less (cut.0 k d (omega arith) before))
      (λ after. named (get_or es k d) Greater (cut.1 k d after within)) (cases_lt k i))

  -- ---- what the entry of a name tells of a test

  -- an entry whose name is above the name has another
  other_above : (a b : List ℕ) → a ≡ name → bytes_cmp a b ≡ Less → bytes_eq name b ≡ false
  other_above a b is less = other_bytes name b (λ same. not_itself a (subst (λ p. bytes_cmp a p ≡ Less) (sym same ∙ sym is) less))

  module _ (test : EntryModel → Bool) where
    none_above : (a : List ℕ) (es : List EntryModel) → a ≡ name → AllByRecursion (λ k. bytes_cmp a k ≡ Less) (names es)
        → list_any (λ (e : EntryModel). bytes_eq name e.name && test e) es ≡ false
    none_above a [] is all = refl
    none_above a (e ∷ es) is all =
        ap (λ b. (b && test e) || list_any (λ (f : EntryModel). bytes_eq name f.name && test f) es) (other_above a e.name is all.0)
        ∙ none_above a es is all.1

    -- one of the name passes it where the entry of the name does
    pub named_tells : (es : List EntryModel) → AreInOrder (names es)
        → list_any (λ (e : EntryModel). bytes_eq name e.name && test e) es ≡ passes test (find is_named es)
    named_tells [] order = refl
    named_tells (e ∷ es) order = at (is_named e) refl (named_tells es (sorted_tail bytes_cmp e.name (names es) order))
      where
        rest : Bool
        rest = list_any (λ (f : EntryModel). bytes_eq name f.name && test f) es

        or_none : (a : Bool) → (a || false) ≡ a
        or_none true = refl
        or_none false = refl

        at : (b : Bool) → is_named e ≡ b → rest ≡ passes test (find is_named es)
            → ((bytes_eq name e.name && test e) || rest) ≡ passes test (cond b (Some e) (find is_named es))
        at true is more =
            ap (λ b. (b && test e) || rest) (nat_list_eq_equiv.symm name e.name ∙ is)
            ∙ ap (λ b. test e || b)
            (none_above e.name es (same_bytes e.name name is) (sorted_head bytes_cmp e.name (names es) order))
            ∙ or_none (test e)
        at false is more = ap (λ b. (b && test e) || rest) (nat_list_eq_equiv.symm name e.name ∙ is) ∙ more

  -- the same of a test by its kind, which stands before that of its name
  module _ (test : Kind → Bool) where
    turned : (es : List EntryModel) → list_any (λ (e : EntryModel). test e.kind && bytes_eq e.name name) es
        ≡ list_any (λ (e : EntryModel). bytes_eq name e.name && test e.kind) es
    turned [] = refl
    turned (e ∷ es) =
        ap (λ b. b || list_any (λ (f : EntryModel). test f.kind && bytes_eq f.name name) es)
        (swapped (test e.kind) (bytes_eq e.name name) (bytes_eq name e.name) (nat_list_eq_equiv.symm e.name name))
        ∙ ap (λ b. (bytes_eq name e.name && test e.kind) || b) (turned es)
      where
        swapped : (a b c : Bool) → b ≡ c → (a && b) ≡ (c && a)
        swapped true true true is = refl
        swapped true false false is = refl
        swapped false b true is = refl
        swapped false b false is = refl
        swapped true true false is = is
        swapped true false true is = is

    pub kind_tells : (es : List EntryModel) → AreInOrder (names es)
        → list_any (λ (e : EntryModel). test e.kind && bytes_eq e.name name) es
        ≡ passes (λ (e : EntryModel). test e.kind) (find is_named es)
    kind_tells es order = turned es ∙ named_tells (λ (e : EntryModel). test e.kind) es order

-- Two lists whose keys rise, merged from their first elements on.
use Rattle.std.proofs.{Common.{arith, ◌≡◌, Bool, true, false, not, ◌||◌, cond, List, [], ◌∷◌, ◌++◌, Option, Some, None, is_some, refl, sym}}
use Rattle.std.proofs.{Common.{◌∙◌, ap, subst, append-nil, append_assoc}, lemmas.{Grind.common_steps, Cmp.tied_itself}}
use Rattle.std.proofs.lemmas.Map.Lookups.{CmpEqualImpliesEq}
use Rattle.std.proofs.{lemmas.List.Elements.{All-cons, All-nil, All-from_recursion, All-weaker, recursion_from_All}}
use Rattle.std.specs.{Cmp.IsTotalOrder, List.{AllByRecursion, Sorted.IsStrictlySortedBy}, Option.{option_or, option_to_list}}
use Rattle.std.specs.{Ordering.{eq_by_cmp, is_eq, is_lt, on, ordering_reverse}, declared.cmp.Ordering.Ordering}
use Rattle.std.specs.{declared.cmp.Ordering.TheVariants.{Less, Equal, Greater}}
use Rattle.lc_changes.specs.{Merged.{AreMerged, IsLineAt, IsLineOf, has_key, left_of, next_by, next_of, of_key}}

module _ {X K : Type 0} (key : X → K) (cmp : K → K → Ordering) where
  -- a key is less than the keys of all these
  abbrev pub Below : K → List X → Type 0
  Below k xs = AllByRecursion (λ x. cmp k (key x) ≡ Less) xs

  -- the keys rise
  abbrev pub Rises : List X → Type 0
  Rises = IsStrictlySortedBy (on key cmp)

  of_later : (k : K) (xs : List X) → Below k xs → of_key key cmp k xs ≡ []
  of_later k [] below = refl
  of_later k (x ∷ xs) below =
      ap (λ o. cond (is_eq o) (x ∷ of_key key cmp k xs) (of_key key cmp k xs)) below.0 ∙ of_later k xs below.1

  -- a test of orders that fails where a key is less
  pub none_passes : (k : K) (test : Ordering → Bool) (xs : List X) → test Less ≡ false → Below k xs
      → has_key key (λ j. test (cmp k j)) xs ≡ false
  none_passes k test [] fails below = refl
  none_passes k test (x ∷ xs) fails below =
      (λ i. test (below.0 i) || has_key key (λ j. test (cmp k j)) xs) ∙ (λ i. fails i || none_passes k test xs fails below.1 i)

  all_less : (k : K) (xs : List X) → has_key key (λ j. not (is_lt (cmp k j))) xs ≡ false → Below k xs
  all_less k [] none = tt
  all_less k (x ∷ xs) none = at (cmp k (key x)) refl none (all_less k xs)
    where
      at : (o : Ordering) → cmp k (key x) ≡ o → (not (is_lt o) || has_key key (λ j. not (is_lt (cmp k j))) xs) ≡ false
          → (has_key key (λ j. not (is_lt (cmp k j))) xs ≡ false → Below k xs) → Below k (x ∷ xs)
      at Less is none rest = (is, rest none)
      at Equal is none rest = absurd (cc)
      at Greater is none rest = absurd (cc)

  pub further : (total : IsTotalOrder cmp) (j k : K) (xs : List X) → cmp j k ≡ Less → Below k xs → Below j xs
  further total j k [] less below = tt
  further total j k (x ∷ xs) less below = (total.trans j k (key x) less below.0, further total j k xs less below.1)

  -- the key of an element, if there is one
  abbrev IsAt : K → Option X → Type 0
  IsAt k None = Unit {0}
  IsAt k (Some x) = key x ≡ k

  abbrev then : Option X → List X → List X
  then None xs = xs
  then (Some x) xs = x ∷ xs

module _ {X L K : Type 0} (key : X → K) (cmp : K → K → Ordering) (line_key : L → K) (IsOf : List X → List X → L → Type 0) where
  abbrev Are : List X → List X → List L → Type 0
  Are = AreMerged key cmp line_key IsOf

  -- lists that have the same keys, and elements of the same lines
  pub merged_as : (olds news olds_as news_as : List X) (ls : List L)
      → ((l : L) → IsLineAt key cmp line_key IsOf olds news l → IsLineAt key cmp line_key IsOf olds_as news_as l)
      → ((keys : K → Bool) → has_key key keys olds ≡ has_key key keys olds_as)
      → ((keys : K → Bool) → has_key key keys news ≡ has_key key keys news_as) → Are olds news ls → Are olds_as news_as ls
  merged_as olds news olds_as news_as ls same old_keys new_keys are = record {
    each = All-weaker (IsLineAt key cmp line_key IsOf olds news) (IsLineAt key cmp line_key IsOf olds_as news_as) same ls are.each;
    present = λ keys. are.present keys ∙ (λ i. old_keys keys i || new_keys keys i);
    order = are.order;
  }

  -- some lines were made, and what is left of both lists is still to be merged
  pub record IsMerging (all_olds all_news : List X) (done : List L) (olds news : List X) : Type 0 where
    pub olds_rise : Rises key cmp olds
    pub news_rise : Rises key cmp news
    pub rest : (ls : List L) → Are olds news ls → Are all_olds all_news (done ++ ls)

  no_line : (all_olds all_news : List X) (done : List L) (olds news : List X)
      → option_or (next_of key cmp olds news).1 (next_of key cmp olds news).0 ≡ None
      → IsMerging all_olds all_news done olds news → Are all_olds all_news done
  unfolding IsStrictlySortedBy
  no_line all_olds all_news done [] [] none so_far =
      subst (Are all_olds all_news) (append-nil done) (so_far.rest [] (record { each = All-nil _; present = λ keys. refl; order = tt }))
  no_line all_olds all_news done (o ∷ os) [] none so_far = absurd (cc)
  no_line all_olds all_news done [] (n ∷ ns) none so_far = absurd (cc)
  no_line all_olds all_news done (o ∷ os) (n ∷ ns) none so_far = grind (arith, common_steps)

  pub merging_last : (all_olds all_news : List X) (done : List L) (olds news : List X) (old new : Option X)
      → (old, new) ≡ next_of key cmp olds news → option_or new old ≡ None → IsMerging all_olds all_news done olds news
      → Are all_olds all_news done
  merging_last all_olds all_news done olds news old new next none so_far =
      no_line all_olds all_news done olds news (subst (λ (s : Option X × Option X). option_or s.1 s.0 ≡ None) next none) so_far

module _ {X L K : Type 0} (key : X → K) (cmp : K → K → Ordering) (line_key : L → K) (IsOf : List X → List X → L → Type 0)
    (total : IsTotalOrder cmp) (exact : CmpEqualImpliesEq cmp) where
  -- the elements of a later key
  of_other : (old : Option X) (os : List X) (k j : K) → IsAt key cmp k old → cmp k j ≡ Less
      → of_key key cmp j os ≡ of_key key cmp j (then key cmp old os)
  of_other None os k j at less = refl
  of_other (Some o) os k j at less =
      sym (ap (λ b. cond b (o ∷ of_key key cmp j os) (of_key key cmp j os)) (ap (eq_by_cmp cmp j) at
      ∙ ap is_eq (total.antisymm j k ∙ ap ordering_reverse less)))

  of_first : (old : Option X) (os : List X) (k : K) → IsAt key cmp k old → Below key cmp k os
      → option_to_list old ≡ of_key key cmp k (then key cmp old os)
  of_first None os k at below = sym (of_later key cmp k os below)
  of_first (Some o) os k at below =
      ap (λ l. o ∷ l) (sym (of_later key cmp k os below))
      ∙ sym (ap (λ b. cond b (o ∷ of_key key cmp k os) (of_key key cmp k os)) (ap (eq_by_cmp cmp k) at ∙ ap is_eq (tied_itself total k)))

  -- one line more, of the elements of the least key
  behind : (k : K) (old new : Option X) (os ns : List X) (ls : List L) → IsAt key cmp k old → IsAt key cmp k new
      → Below line_key cmp k ls → AllByRecursion (IsLineAt key cmp line_key IsOf os ns) ls
      → AllByRecursion (IsLineAt key cmp line_key IsOf (then key cmp old os) (then key cmp new ns)) ls
  behind k old new os ns [] at_old at_new below each = tt
  behind k old new os ns (l ∷ ls) at_old at_new below each = (
    subst (λ xs. IsOf xs (of_key key cmp (line_key l) (then key cmp new ns)) l) (of_other old os k (line_key l) at_old below.0)
        (subst (λ ys. IsOf (of_key key cmp (line_key l) os) ys l) (of_other new ns k (line_key l) at_new below.0) each.0),
    behind k old new os ns ls at_old at_new below.1 each.1,
  )

  there : (keys : K → Bool) (k : K) (old new : Option X) (os ns : List X) → IsAt key cmp k old → IsAt key cmp k new
      → is_some (option_or new old) ≡ true → (keys k || (has_key key keys os || has_key key keys ns))
      ≡ (has_key key keys (then key cmp old os) || has_key key keys (then key cmp new ns))
  there keys k old new os ns at_old at_new some = grind (arith, common_steps)

  one_more : (l : L) (old new : Option X) (os ns : List X) (ls : List L) → IsLineOf key line_key IsOf old new l
      → IsAt key cmp (line_key l) old → IsAt key cmp (line_key l) new → Below key cmp (line_key l) os
      → Below key cmp (line_key l) ns → Are key cmp line_key IsOf os ns ls
      → Are key cmp line_key IsOf (then key cmp old os) (then key cmp new ns) (l ∷ ls)
  unfolding IsStrictlySortedBy
  one_more l old new os ns ls line at_old at_new below_olds below_news are =
      let k : K = line_key l in
      let below : Below line_key cmp k ls = all_less line_key cmp k ls (are.present (λ j. not (is_lt (cmp k j)))
      ∙ (λ i. none_passes key cmp k (λ o. not (is_lt o)) os refl below_olds i
      || none_passes key cmp k (λ o. not (is_lt o)) ns refl below_news i)) in
      let P : L → Type 0 = IsLineAt key cmp line_key IsOf (then key cmp old os) (then key cmp new ns) in
      record {
        each = All-cons P l ls
            (subst (λ xs. IsOf xs (of_key key cmp k (then key cmp new ns)) l) (of_first old os k at_old below_olds)
            (subst (λ ys. IsOf (option_to_list old) ys l) (of_first new ns k at_new below_news) line.is))
            (All-from_recursion P ls (behind k old new os ns ls at_old at_new below (recursion_from_All _ ls are.each)));
        present = λ keys. ap (λ b. keys k || b) (are.present keys) ∙ there keys k old new os ns at_old at_new line.some;
        order = (below, are.order);
      }

  step : (all_olds all_news : List X) (done : List L) (old new : Option X) (os ns : List X) (l : L) → IsLineOf key line_key IsOf old new l
      → IsAt key cmp (line_key l) old → IsAt key cmp (line_key l) new → Below key cmp (line_key l) os → Below key cmp (line_key l) ns
      → Rises key cmp os → Rises key cmp ns
      → IsMerging key cmp line_key IsOf all_olds all_news done (then key cmp old os) (then key cmp new ns)
      → IsMerging key cmp line_key IsOf all_olds all_news (done ++ l ∷ []) os ns
  step all_olds all_news done old new os ns l line at_old at_new below_olds below_news olds_rise news_rise so_far = record {
    olds_rise = olds_rise;
    news_rise = news_rise;
    rest = λ ls are. subst (Are key cmp line_key IsOf all_olds all_news) (sym (append_assoc done (l ∷ []) ls))
        (so_far.rest (l ∷ ls) (one_more l old new os ns ls line at_old at_new below_olds below_news are));
  }

  at : (j k : K) (xs : List X) → j ≡ k → Below key cmp k xs → Below key cmp j xs
  at j k xs same below = subst (λ i. Below key cmp i xs) (sym same) below

  -- the lists that are left after the next line
  abbrev IsAfter : List X → List X → List L → List X → List X → L → Option X × Option X → Type 0
  IsAfter all_olds all_news done os ns l s =
      IsLineOf key line_key IsOf s.0 s.1 l → IsMerging key cmp line_key IsOf all_olds all_news done os ns
      → IsMerging key cmp line_key IsOf all_olds all_news (done ++ l ∷ []) (left_of s.0 os) (left_of s.1 ns)

  by_order : (all_olds all_news : List X) (done : List L) (o : X) (os : List X) (n : X) (ns : List X) (l : L) (order : Ordering)
      → cmp (key o) (key n) ≡ order → IsAfter all_olds all_news done (o ∷ os) (n ∷ ns) l (next_by order o n)
  unfolding IsStrictlySortedBy
  by_order all_olds all_news done o os n ns l Less is line so_far =
      let k : line_key l ≡ key o = line.keyed o refl in
      step all_olds all_news done (Some o) None os (n ∷ ns) l line (sym k) tt (at _ _ _ k so_far.olds_rise.0)
      (at (line_key l) (key o) (n ∷ ns) k (is, further key cmp total _ _ _ is so_far.news_rise.0)) so_far.olds_rise.1 so_far.news_rise
      so_far
  by_order all_olds all_news done o os n ns l Equal is line so_far =
      let k : line_key l ≡ key n = line.keyed n refl in
      let j : line_key l ≡ key o = k ∙ sym (exact (key o) (key n) is) in
      step all_olds all_news done (Some o) (Some n) os ns l line (sym j) (sym k) (at _ _ _ j so_far.olds_rise.0)
      (at _ _ _ k so_far.news_rise.0) so_far.olds_rise.1 so_far.news_rise.1 so_far
  by_order all_olds all_news done o os n ns l Greater is line so_far =
      let k : line_key l ≡ key n = line.keyed n refl in
      let less : cmp (key n) (key o) ≡ Less = total.antisymm (key n) (key o) ∙ ap ordering_reverse is in
      step all_olds all_news done None (Some n) (o ∷ os) ns l line tt (sym k)
      (at (line_key l) (key n) (o ∷ os) k (less, further key cmp total _ _ _ less so_far.olds_rise.0)) (at _ _ _ k so_far.news_rise.0)
      so_far.olds_rise so_far.news_rise.1 so_far

  after_next : (all_olds all_news : List X) (done : List L) (os ns : List X) (l : L)
      → IsAfter all_olds all_news done os ns l (next_of key cmp os ns)
  unfolding IsStrictlySortedBy
  after_next all_olds all_news done [] [] l line so_far = absurd (let e : false ≡ true = line.some in cc)
  after_next all_olds all_news done (o ∷ os) [] l line so_far =
      let k : line_key l ≡ key o = line.keyed o refl in
      step all_olds all_news done (Some o) None os [] l line (sym k) tt (at _ _ _ k so_far.olds_rise.0) tt so_far.olds_rise.1 tt so_far
  after_next all_olds all_news done [] (n ∷ ns) l line so_far =
      let k : line_key l ≡ key n = line.keyed n refl in
      step all_olds all_news done None (Some n) [] ns l line tt (sym k) tt (at _ _ _ k so_far.news_rise.0) tt so_far.news_rise.1 so_far
  after_next all_olds all_news done (o ∷ os) (n ∷ ns) l line so_far =
      by_order all_olds all_news done o os n ns l (cmp (key o) (key n)) refl line so_far

  pub merging_next : (all_olds all_news : List X) (done after : List L) (olds news : List X) (old new : Option X) (l : L)
      (olds_left news_left : List X) → (old, new) ≡ next_of key cmp olds news → IsLineOf key line_key IsOf old new l
      → after ≡ done ++ l ∷ [] → olds_left ≡ left_of old olds → news_left ≡ left_of new news
      → IsMerging key cmp line_key IsOf all_olds all_news done olds news
      → IsMerging key cmp line_key IsOf all_olds all_news after olds_left news_left
  merging_next all_olds all_news done after olds news old new l olds_left news_left next line more of_olds of_news so_far =
      rw (more, of_olds, of_news) (subst (IsAfter all_olds all_news done olds news l) (sym next)
      (after_next all_olds all_news done olds news l) line so_far)

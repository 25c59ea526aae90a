-- Paths in the order of their bytes, and what they begin with.
use Rattle.std.proofs.Common.{◌≡◌, ℕ, ◌==◌, Bool, true, false, cond, List, [], ◌∷◌, ◌++◌, refl, sym, ◌∙◌, ap, subst, Option, Some, None}
use Rattle.std.proofs.{Common.{bytes_eq, eq-eqb}, lemmas.{Bool.eqb-true, Cmp.{nat_cmp_total, nat_list_cmp_total}}}
use Rattle.std.proofs.lemmas.Map.Lookups.{exact_unsigned}
use Rattle.std.specs.{declared.cmp.Ordering.{Ordering, TheVariants.{Less, Equal, Greater}}, List.{filter_map, cons_option, AllByRecursion}}
use Rattle.std.specs.{List.Sorted.IsStrictlySortedBy, Option.is_some, Ordering.{is_lt, nat_cmp, ordering_then, ordering_reverse}}
use Rattle.lc_glob.specs.Bytes.{slash}
use Rattle.lc_level.specs.{Narrowing.{after, stands_below, rest_from}, PathSteps.comes_before}
use Rattle.lc_level.proofs.{AskedPaths.after_is, WellFormed.{clash, other_bytes}}
use Rattle.lc_tree.specs.ByteOrder.{bytes_cmp, AreInOrder}

-- ---- the order

-- what is told to be less
pub less_true : (o : Ordering) → is_lt o ≡ true → o ≡ Less
less_true Less e = refl
less_true Equal e = absurd (cc e)
less_true Greater e = absurd (cc e)

-- no path is below itself
pub not_itself : (x : List ℕ) → bytes_cmp x x ≡ Less → ⊥
not_itself x e =
    let turned : Less ≡ Greater = sym e ∙ (nat_list_cmp_total.antisymm x x ∙ ap ordering_reverse e) in
    cc turned

same_byte : (b : ℕ) → nat_cmp b b ≡ Equal
same_byte b = itself (nat_cmp b b) (nat_cmp_total.antisymm b b)
  where
    itself : (o : Ordering) → o ≡ ordering_reverse o → o ≡ Equal
    itself Less e = absurd (cc e)
    itself Equal e = refl
    itself Greater e = absurd (cc e)

-- what is below a path that is before a place is before it
pub falls : (place x y : List ℕ) → bytes_cmp x y ≡ Less → is_lt (bytes_cmp y place) ≡ true → is_lt (bytes_cmp x place) ≡ true
falls place x y less before = ap is_lt (nat_list_cmp_total.trans x y place less (less_true (bytes_cmp y place) before))

-- what is before a path is another
pub another : (path x : List ℕ) → is_lt (bytes_cmp x path) ≡ true → bytes_eq path x ≡ false
another path x before =
    other_bytes path x (λ same. not_itself x (subst (λ p. bytes_cmp x p ≡ Less) same (less_true (bytes_cmp x path) before)))

-- and so is what is above one that isn't
pub another_later : (path x y : List ℕ) → bytes_cmp x y ≡ Less → is_lt (bytes_cmp x path) ≡ false → bytes_eq path y ≡ false
another_later path x y less past =
    other_bytes path y (λ same. clash (ap is_lt (subst (λ p. bytes_cmp x p ≡ Less) (sym same) less)) past)

-- ---- what begins with some bytes

-- what is before these doesn't begin with them
pub early_after : (f x : List ℕ) → is_lt (bytes_cmp x f) ≡ true → after f x ≡ None
early_after [] [] before = let h : false ≡ true = before in absurd (cc h)
early_after [] (c ∷ cs) before = let h : false ≡ true = before in absurd (cc h)
early_after (b ∷ bs) [] before = refl
early_after (b ∷ bs) (c ∷ cs) before = at (b == c) refl (early_after bs cs)
  where
    at : (t : Bool) → (b == c) ≡ t → (is_lt (bytes_cmp cs bs) ≡ true → after bs cs ≡ None) → cond t (after bs cs) None ≡ None
    at false e more = refl
    at true e more =
        more (sym (ap (λ o. is_lt (ordering_then o (bytes_cmp cs bs))) (ap (λ n. nat_cmp c n) (eqb-true b c e) ∙ same_byte c)) ∙ before)

-- nor does what follows one that isn't before them and doesn't either
pub late_after : (f x y : List ℕ) → bytes_cmp x y ≡ Less → is_lt (bytes_cmp x f) ≡ false → after f x ≡ None → after f y ≡ None
late_after [] x y less past none = let h : Some x ≡ None = none in absurd (cc h)
late_after (b ∷ bs) [] y less past none = let h : true ≡ false = past in absurd (cc h)
late_after (b ∷ bs) (c ∷ cs) [] less past none = refl
late_after (b ∷ bs) (c ∷ cs) (e ∷ es) less past none = at (b == e) refl (late_after bs cs es)
  where
    by_byte : (o : Ordering) → nat_cmp c b ≡ o → ordering_then o (bytes_cmp cs es) ≡ Less
        → is_lt (ordering_then o (bytes_cmp cs bs)) ≡ false
        → (bytes_cmp cs es ≡ Less → is_lt (bytes_cmp cs bs) ≡ false → after bs cs ≡ None → after bs es ≡ None) → after bs es ≡ None
    by_byte Less is less past more = let h : true ≡ false = past in absurd (cc h)
    by_byte Greater is less past more = let h : Greater ≡ Less = less in absurd (cc h)
    by_byte Equal is less past more =
        more less past (sym (ap (λ t. cond t (after bs cs) None) (eq-eqb b c (sym (exact_unsigned c b is)))) ∙ none)

    at : (t : Bool) → (b == e) ≡ t → (bytes_cmp cs es ≡ Less → is_lt (bytes_cmp cs bs) ≡ false → after bs cs ≡ None → after bs es ≡ None)
        → cond t (after bs es) None ≡ None
    at false other more = refl
    at true same more =
        by_byte (nat_cmp c b) refl
        (subst (λ n. ordering_then (nat_cmp c n) (bytes_cmp cs es) ≡ Less) (sym (eqb-true b e same)) less) past more

-- a path that doesn't begin with some bytes is before these and more where it is before these
pub before_more : (f g x : List ℕ) → after f x ≡ None → is_lt (bytes_cmp x (f ++ g)) ≡ is_lt (bytes_cmp x f)
before_more [] g x none = let h : Some x ≡ None = none in absurd (cc h)
before_more (b ∷ bs) g [] none = refl
before_more (b ∷ bs) g (c ∷ cs) none = at (nat_cmp c b) refl (before_more bs g cs)
  where
    at : (o : Ordering) → nat_cmp c b ≡ o → (after bs cs ≡ None → is_lt (bytes_cmp cs (bs ++ g)) ≡ is_lt (bytes_cmp cs bs))
        → is_lt (ordering_then o (bytes_cmp cs (bs ++ g))) ≡ is_lt (ordering_then o (bytes_cmp cs bs))
    at Less is more = refl
    at Greater is more = refl
    at Equal is more = more (sym (ap (λ t. cond t (after bs cs) None) (eq-eqb b c (sym (exact_unsigned c b is)))) ∙ none)

-- paths that begin alike are as what follows
pub begin_alike : (f x y : List ℕ) → bytes_cmp (f ++ x) (f ++ y) ≡ bytes_cmp x y
begin_alike [] x y = refl
begin_alike (b ∷ bs) x y = ap (λ o. ordering_then o (bytes_cmp (bs ++ x) (bs ++ y))) (same_byte b) ∙ begin_alike bs x y

none_from : (o : Option (List ℕ)) → is_some o ≡ false → o ≡ None
none_from None e = refl
none_from (Some x) e = absurd (cc e)

-- what is before all that stand below a path doesn't
pub early_below : (path x : List ℕ) → is_lt (bytes_cmp x (path ++ slash ∷ [])) ≡ true → stands_below x path ≡ false
early_below path x before = ap is_some (early_after (path ++ slash ∷ []) x before)

-- nor does what follows one that isn't and doesn't either
pub late_below : (path x y : List ℕ) → bytes_cmp x y ≡ Less → is_lt (bytes_cmp x (path ++ slash ∷ [])) ≡ false → stands_below x path ≡ false
    → stands_below y path ≡ false
late_below path x y less past none =
    ap is_some (late_after (path ++ slash ∷ []) x y less past (none_from (after (path ++ slash ∷ []) x) none))

-- ---- paths seen from a directory

-- what is below a path that comes before those of a directory comes before them
pub comes_falls : (d x y : List ℕ) → bytes_cmp x y ≡ Less → comes_before d y ≡ true → comes_before d x ≡ true
comes_falls [] x [] less before = empty x less
  where
    empty : (x : List ℕ) → bytes_cmp x [] ≡ Less → comes_before [] x ≡ true
    empty [] e = refl
    empty (c ∷ cs) e = let h : Greater ≡ Less = e in absurd (cc h)
comes_falls [] x (c ∷ cs) less before = let h : false ≡ true = before in absurd (cc h)
comes_falls (b ∷ bs) x y less before = falls (b ∷ bs ++ slash ∷ []) x y less before

-- what comes before those of a directory isn't seen from it
pub early_rest : (d x : List ℕ) → comes_before d x ≡ true → rest_from d x ≡ None
early_rest [] [] before = refl
early_rest [] (c ∷ cs) before = let h : false ≡ true = before in absurd (cc h)
early_rest (b ∷ bs) x before = early_after (b ∷ bs ++ slash ∷ []) x before

-- nor is what follows one that doesn't and isn't either
pub late_rest : (d x y : List ℕ) → bytes_cmp x y ≡ Less → comes_before d x ≡ false → rest_from d x ≡ None → rest_from d y ≡ None
late_rest [] [] y less past none = let h : true ≡ false = past in absurd (cc h)
late_rest [] (c ∷ cs) y less past none = let h : Some (c ∷ cs) ≡ None = none in absurd (cc h)
late_rest (b ∷ bs) x y less past none = late_after (b ∷ bs ++ slash ∷ []) x y less past none

-- what is seen is in the order of the paths
rests_rise : (d x y r s : List ℕ) → bytes_cmp x y ≡ Less → rest_from d x ≡ Some r → rest_from d y ≡ Some s → bytes_cmp r s ≡ Less
rests_rise [] [] y r s less seen other = let h : None ≡ Some r = seen in absurd (cc h)
rests_rise [] (c ∷ cs) [] r s less seen other = let h : None ≡ Some s = other in absurd (cc h)
rests_rise [] (c ∷ cs) (e ∷ es) r s less seen other =
    let one : Some (c ∷ cs) ≡ Some r = seen in
    let two : Some (e ∷ es) ≡ Some s = other in
    let one' : c ∷ cs ≡ r = cc one in
    let two' : e ∷ es ≡ s = cc two in
    subst (λ t. bytes_cmp r t ≡ Less) two' (subst (λ t. bytes_cmp t (e ∷ es) ≡ Less) one' less)
rests_rise (b ∷ bs) x y r s less seen other =
    let f : List ℕ = b ∷ bs ++ slash ∷ [] in
    sym (begin_alike f r s)
    ∙ subst (λ t. bytes_cmp (f ++ r) t ≡ Less) (after_is f y s other) (subst (λ t. bytes_cmp t y ≡ Less) (after_is f x r seen) less)

pub seen_in_order : (d : List ℕ) (paths : List (List ℕ)) → AreInOrder paths → AreInOrder (filter_map (rest_from d) paths)
unfolding IsStrictlySortedBy
seen_in_order d [] order = tt
seen_in_order d (x ∷ xs) order = at (rest_from d x) refl (seen_in_order d xs order.1)
  where
    others : (r : List ℕ) → rest_from d x ≡ Some r → (ys : List (List ℕ)) → AllByRecursion (λ y. bytes_cmp x y ≡ Less) ys
        → AllByRecursion (λ s. bytes_cmp r s ≡ Less) (filter_map (rest_from d) ys)
    others r e [] all = tt
    others r e (y ∷ ys) all = one (rest_from d y) refl (others r e ys all.1)
      where
        one : (o : Option (List ℕ)) → rest_from d y ≡ o → AllByRecursion (λ s. bytes_cmp r s ≡ Less) (filter_map (rest_from d) ys)
            → AllByRecursion (λ s. bytes_cmp r s ≡ Less) (cons_option o (filter_map (rest_from d) ys))
        one None f rest = rest
        one (Some s) f rest = (rests_rise d x y r s all.0 e f, rest)

    at : (o : Option (List ℕ)) → rest_from d x ≡ o → AreInOrder (filter_map (rest_from d) xs)
        → AreInOrder (cons_option o (filter_map (rest_from d) xs))
    at None e rest = rest
    at (Some r) e rest = (others r e xs order.0, rest)

-- from the first that is past a directory's paths on nothing is seen from it
pub none_seen : (d x : List ℕ) (xs : List (List ℕ)) → AllByRecursion (λ y. bytes_cmp x y ≡ Less) xs → comes_before d x ≡ false
    → rest_from d x ≡ None → filter_map (rest_from d) xs ≡ []
none_seen d x [] all past none = refl
none_seen d x (y ∷ ys) all past none =
    ap (λ o. cons_option o (filter_map (rest_from d) ys)) (late_rest d x y all.0 past none) ∙ none_seen d x ys all.1 past none

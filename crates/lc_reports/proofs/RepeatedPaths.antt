-- In sorted paths, the first that the next one repeats is the first that is there twice.
use Rattle.std.proofs.Common.{◌≡◌, ℕ, ◌+◌, ◌≤◌, Bool, true, false, cond, if◌then◌else◌, List, [], ◌∷◌, Option, Some, None, get_or, suc}
use Rattle.std.proofs.{Common.{refl, sym, ◌∙◌, ap, subst, arith, suc-add, zero-add}, lemmas.Cmp.nat_list_cmp_total}
use Rattle.std.proofs.lemmas.{List.{Sorted.{sorted_far, sum_by-IsPermutation}, Sums.sum_by-cons}, Map.Text.is_eq-slice_cmp}
use Rattle.std.proofs.lemmas.Slice.Eq.{bytes_eq-Decides}
use Rattle.std.specs.{Prelude.unwrap_or, List.{All, count_by, Sorted.{IsPermutation, IsSortedByKey}}, Ordering.{is_eq, is_lt}}
use Rattle.std.specs.{Ordering.ordering_reverse, Str.bytes_eq, declared.cmp.Ordering.{Ordering, TheVariants.{Less, Equal, Greater}}}
use Rattle.lc_tree.proofs.Sorting.{paths_rank}
use Rattle.lc_tree.specs.ByteOrder.{bytes_cmp}
use Rattle.lc_reports.specs.Paths.{AreApart, IsFirstTwice, IsTwice, first_repeated, is_first}

-- ---- how often a path is there

abbrev times : List ℕ → List (List ℕ) → ℕ
times path paths = count_by (bytes_eq path) paths

one_more : (q p : List ℕ) (ps : List (List ℕ)) → times q (p ∷ ps) ≡ cond (bytes_eq q p) 1 0 + times q ps
one_more q p ps = sum_by-cons (λ (path : List ℕ). cond (bytes_eq q path) 1 0) p ps

at_front : (q p : List ℕ) (ps : List (List ℕ)) → bytes_eq q p ≡ true → times q (p ∷ ps) ≡ 1 + times q ps
at_front q p ps same = one_more q p ps ∙ ap (λ b. cond b 1 0 + times q ps) same

not_at_front : (q p : List ℕ) (ps : List (List ℕ)) → bytes_eq q p ≡ false → times q (p ∷ ps) ≡ times q ps
not_at_front q p ps other = one_more q p ps ∙ ap (λ b. cond b 1 0 + times q ps) other ∙ zero-add (times q ps)

never : (q : List ℕ) (ps : List (List ℕ)) → All (λ p. bytes_eq q p ≡ false) ps → times q ps ≡ 0
never q [] none = refl
never q (p ∷ ps) none =
    not_at_front q p ps (none 0 q (omega arith)) ∙ never q ps (λ k d low. none (suc k) d (omega arith))

is_itself : (p : List ℕ) → bytes_eq p p ≡ true
is_itself p = (bytes_eq-Decides p p).1 refl

-- ---- sorted paths

abbrev IsUp : List (List ℕ) → Type 0
IsUp ps = IsSortedByKey (λ (path : List ℕ). path) bytes_cmp ps

abbrev below : List ℕ → List ℕ → Bool
below q p = is_lt (bytes_cmp q p)

up_after : (p : List ℕ) (ps : List (List ℕ)) → IsUp (p ∷ ps) → IsUp ps
up_after p ps up k d low high =
    subst (λ n. below (get_or (p ∷ ps) n d) (get_or ps k d) ≡ false) (suc-add k 1) (up (suc k) d (omega arith) (omega arith))

-- the first is the least
least : (p : List ℕ) (ps : List (List ℕ)) → IsUp (p ∷ ps) → All (λ q. below q p ≡ false) (p ∷ ps)
least p ps up k d low = sorted_far (λ (a b : List ℕ). below a b) (paths_rank (λ (path : List ℕ). path)) (p ∷ ps) up 0 k d (omega arith) low

equal_if_neither : (o : Ordering) → is_lt o ≡ false → is_lt (ordering_reverse o) ≡ false → is_eq o ≡ true
equal_if_neither Less a b = absurd (cc)
equal_if_neither Equal a b = refl
equal_if_neither Greater a b = absurd (cc)

same_if_neither : (p q : List ℕ) → below p q ≡ false → below q p ≡ false → bytes_eq p q ≡ true
same_if_neither p q no_less no_more =
    sym (is_eq-slice_cmp p q)
    ∙ equal_if_neither (bytes_cmp p q) no_less (ap is_lt (sym (nat_list_cmp_total.antisymm q p)) ∙ no_more)

-- a path below the first is not there
none_below : (q p : List ℕ) (ps : List (List ℕ)) → IsUp (p ∷ ps) → below q p ≡ true → times q (p ∷ ps) ≡ 0
none_below q p ps up less =
    never q (p ∷ ps) (λ k d low. at (get_or (p ∷ ps) k d) (least p ps up k d low) (bytes_eq q (get_or (p ∷ ps) k d)) refl)
  where
    at : (x : List ℕ) → below x p ≡ false → (b : Bool) → bytes_eq q x ≡ b → b ≡ false
    at x no_less false e = refl
    at x no_less true e =
        absurd (cc (sym less ∙ ap (λ path. below path p) ((bytes_eq-Decides q x).0 e) ∙ no_less))

-- where the next one is another, the first is there once
none_after : (p : List ℕ) (ps : List (List ℕ)) → IsUp (p ∷ ps) → is_first p ps ≡ false → times p ps ≡ 0
none_after p [] up other = refl
none_after p (r ∷ ps) up other =
    never p (r ∷ ps) (λ k d low.
    at (get_or (r ∷ ps) k d) (least r ps (up_after p (r ∷ ps) up) k d low) (bytes_eq p (get_or (r ∷ ps) k d)) refl)
  where
    at : (x : List ℕ) → below x r ≡ false → (b : Bool) → bytes_eq p x ≡ b → b ≡ false
    at x no_less false e = refl
    at x no_less true e =
        let same : p ≡ x = (bytes_eq-Decides p x).0 e in
        let higher : below r p ≡ false = least p (r ∷ ps) up 1 p (omega arith) in
        absurd (cc (sym other ∙ same_if_neither r p higher (ap (λ path. below path r) same ∙ no_less)))

-- ---- none is repeated

once : (q p : List ℕ) (ps : List (List ℕ)) → times p ps ≡ 0 → times q ps ≤ 1 → (b : Bool) → bytes_eq q p ≡ b → times q (p ∷ ps) ≤ 1
once q p ps none rest true e =
    let front = at_front q p ps e in
    let others : times q ps ≡ 0 = ap (λ path. times path ps) ((bytes_eq-Decides q p).0 e) ∙ none in
    omega arith
once q p ps none rest false e = let front = not_at_front q p ps e in omega arith

all_once : (ps : List (List ℕ)) → IsUp ps → first_repeated ps ≡ None → (q : List ℕ) → times q ps ≤ 1
all_once [] up none q = omega arith
all_once (p ∷ ps) up none q = at (λ is. all_once ps (up_after p ps up) is q) (is_first p ps) refl none
  where
    at : (first_repeated ps ≡ None → times q ps ≤ 1) → (b : Bool) → is_first p ps ≡ b
        → (if b then Some p else first_repeated ps) ≡ None → times q (p ∷ ps) ≤ 1
    at rest true e is = absurd (cc is)
    at rest false e is = once q p ps (none_after p ps up e) (rest is) (bytes_eq q p) refl

apart_if_none : (ps : List (List ℕ)) → IsUp ps → first_repeated ps ≡ None → AreApart ps
apart_if_none ps up none q twice = let one = all_once ps up none q in omega arith

-- ---- one is repeated

-- a path that is twice among the first and others is not the first, or the next one is the same
twice_after : (q p : List ℕ) (ps : List (List ℕ)) → times p ps ≡ 0 → IsTwice q (p ∷ ps) → (b : Bool) → bytes_eq q p ≡ b → IsTwice q ps
twice_after q p ps none twice true e =
    let front = at_front q p ps e in
    let others : times q ps ≡ 0 = ap (λ path. times path ps) ((bytes_eq-Decides q p).0 e) ∙ none in
    absurd (omega (arith, twice))
twice_after q p ps none twice false e = let front = not_at_front q p ps e in omega (arith, twice)

twice_before : (q p : List ℕ) (ps : List (List ℕ)) → IsTwice q ps → IsTwice q (p ∷ ps)
twice_before q p ps twice = let more = one_more q p ps in omega (arith, twice)

two_first : (p : List ℕ) (ps : List (List ℕ)) → is_first p ps ≡ true → IsTwice p (p ∷ ps)
two_first p [] same = absurd (cc same)
two_first p (r ∷ ps) same =
    let first = at_front p p (r ∷ ps) (is_itself p) in
    let second = at_front p r ps (subst (λ path. bytes_eq p path ≡ true) (sym ((bytes_eq-Decides r p).0 same)) (is_itself p)) in
    omega arith

not_below : (q p : List ℕ) (ps : List (List ℕ)) → IsUp (p ∷ ps) → IsTwice q (p ∷ ps) → (b : Bool) → below q p ≡ b → b ≡ false
not_below q p ps up twice false e = refl
not_below q p ps up twice true e = let none = none_below q p ps up e in absurd (omega (arith, twice))

first_if_some : (ps : List (List ℕ)) → IsUp ps → (path : List ℕ) → first_repeated ps ≡ Some path → IsFirstTwice path ps
first_if_some [] up path some = absurd (cc some)
first_if_some (p ∷ ps) up path some = at (λ is. first_if_some ps (up_after p ps up) path is) (is_first p ps) refl some
  where
    at : (first_repeated ps ≡ Some path → IsFirstTwice path ps) → (b : Bool) → is_first p ps ≡ b
        → (if b then Some p else first_repeated ps) ≡ Some path → IsFirstTwice path (p ∷ ps)
    at others true e is =
        subst (λ x. IsFirstTwice x (p ∷ ps)) (ap (λ (o : Option (List ℕ)). unwrap_or o []) is) (record {
          twice = two_first p ps e;
          first = λ q twice. not_below q p ps up twice (below q p) refl;
        })
    at others false e is =
        let rest = others is in record {
          twice = twice_before path p ps rest.twice;
          first = λ q twice. rest.first q (twice_after q p ps (none_after p ps up e) twice (bytes_eq q p) refl);
        }

-- ---- in any order

pub times_moved : (q : List ℕ) (ps qs : List (List ℕ)) → IsPermutation ps qs → times q qs ≡ times q ps
times_moved q ps qs moved = sum_by-IsPermutation (λ (path : List ℕ). cond (bytes_eq q path) 1 0) ps qs moved

pub apart_sorted : (ps qs : List (List ℕ)) → IsPermutation ps qs → IsUp qs → first_repeated qs ≡ None → AreApart ps
apart_sorted ps qs moved up none q twice =
    let same = times_moved q ps qs moved in apart_if_none qs up none q (omega (arith, twice))

pub first_sorted : (ps qs : List (List ℕ)) (path : List ℕ) → IsPermutation ps qs → IsUp qs → first_repeated qs ≡ Some path
    → IsFirstTwice path ps
first_sorted ps qs path moved up some =
    let first = first_if_some qs up path some in record {
      twice = let same = times_moved path ps qs moved in let twice = first.twice in omega arith;
      first = λ q twice. let same = times_moved q ps qs moved in first.first q (omega (arith, twice));
    }

-- The numbers that all workers ended are the numbers of a history that is over, each once.
use Rattle.std.proofs.lemmas.Grind.{common_steps}
use Rattle.std.proofs.Common.{◌≡◌, ◌≢◌, ℕ, zero, suc, ◌+◌, ◌<◌, ◌≤◌, ◌==◌, Bool, true, false, cond, List, [], ◌∷◌, ◌++◌, length, map}
use Rattle.std.proofs.Common.{slice_get, refl, sym, ◌∙◌, ap, arith, subst, Option, Some, None, ◌⊎◌, inl, inr, IsPermutation, sum_by}
use Rattle.std.proofs.lemmas.Bool.{cases_lt, eqb-true, ne_eqb, or_cases}
use Rattle.std.proofs.lemmas.List.Sums.{sum_by-append, sum_by-cons}
use Rattle.std.proofs.lemmas.List.Sorted.{IsPermutation-refl, IsPermutation-trans, IsPermutation-cons, IsPermutation-middle}
use Rattle.std.proofs.lemmas.List.Sorted.{IsPermutation-append_right, IsPermutation-map, sum_by-IsPermutation}
use Rattle.std.proofs.lemmas.Map.Steps.{length-le_from_distinct_below}
use Rattle.std.specs.List.{flat_map, range_with_len, enumerate_from, list_any, IsDistinct, AllByRecursion}
use Rattle.lc_board.specs.{State.{Status, Absent, Open, Claimed, Returned, Faulted, status}, Part.{worker_of, part}, LegalHistory.IsAllowed}
use Rattle.lc_board.specs.{LegalHistory.{IsLegal, IsOver}, RowsInPlace.row_given, Numbers.{HasNumbers, ends_of, posts_of}, Ends.ends}
use Rattle.lc_board.specs.Laws.{Counts, PostedOnce, StaysLegal, FewNumbers, FewEnds, RowsAreEnds, SumsOfRows}
use Rattle.lc_board.specs.declared.{event.Event.{Event, TheVariants.{Post, Claim, Return, Fault, Over}}, answers.Ended.Ended}
use Rattle.lc_board.proofs.{Places.{at_same, at_other}, Growths.{part_own, part_else}, NumbersOnce.{numbers_once, named}, Weights.each-map}
use Rattle.lc_board.proofs.{Weights.{only, times, permuted}, PostedNumbers.{start, within}, EndedNumbers.{IsGiven, ends_given, no_end}}
use Rattle.lc_board.proofs.EndedNumbers.{row_means_ended, claimed_has_no_row}
use Rattle.lc_board.specs.declared.answers.Ended.TheVariants as ended

-- 0 was never posted
abbrev posts_wanted : Bool → ℕ
posts_wanted true = 0
posts_wanted false = 1

-- how often a number was posted, by what it is and whether it is 0
abbrev PostedAs : Bool → Status → ℕ → Type 0
PostedAs zeroth s p = (s ≡ Absent → p ≡ 0) × (s ≢ Absent → p ≡ posts_wanted zeroth)

first_posted : (b : Bool) → PostedAs b (cond b Open Absent) 0
first_posted b = grind (arith, common_steps)

post_posted : (b zeroth : Bool) (s : Status) (p : ℕ) → PostedAs zeroth s p → (b ≡ true → s ≡ Absent) → (b ≡ true → zeroth ≡ false)
    → PostedAs zeroth (cond b Open s) (cond b (p + 1) p)
post_posted b zeroth s p h1 h2 h3 = grind (arith, common_steps)

keep_posted : (b zeroth : Bool) (t s : Status) (p : ℕ) → PostedAs zeroth s p → t ≢ Absent → (b ≡ true → s ≢ Absent)
    → PostedAs zeroth (cond b t s) p
keep_posted b zeroth t s p h1 h2 h3 = grind (arith, common_steps)

-- ---- each number of a range once

not_before : (p a n : ℕ) → p < a → times p (range_with_len a n) ≡ 0
not_before p a zero l = refl
not_before p a (suc n) l = grind (arith, common_steps, only, at_other, not_before p (a + 1) n (omega arith))

not_after : (p a n : ℕ) → a + n ≤ p → times p (range_with_len a n) ≡ 0
not_after p a zero l = refl
not_after p a (suc n) l = grind (arith, common_steps, only, at_other, not_after p (a + 1) n (omega arith))

once_within : (p a n : ℕ) → a ≤ p → p < a + n → times p (range_with_len a n) ≡ 1
once_within p a zero l b = absurd (omega arith)
once_within p a (suc n) l b = at (cases_lt a p) (λ low. once_within p (a + 1) n (omega arith) (omega arith))
  where
    at : (a < p) ⊎ (p ≤ a) → (a < p → times p (range_with_len (a + 1) n) ≡ 1) → times p (range_with_len a (suc n)) ≡ 1
    at (inl low) rec =
        let rest = rec low in
        let here : only p 1 a ≡ 0 = at_other p a 1 0 (λ e. absurd (omega arith)) in
        omega arith
    at (inr up) rec =
        let rest = not_before p (a + 1) n (omega arith) in
        let here : only p 1 a ≡ 1 = at_same p a 1 0 (omega arith) in
        omega arith

one_more : (b : Bool) (m n : ℕ) → m ≡ n → cond b 1 0 + m ≡ cond b (n + 1) n
one_more b m n h1 = grind (arith, common_steps)

ended_once : (s : Status) (a b c : ℕ) → Counts s a b c → s ≢ Absent → s ≢ Open → ((w : ℕ) → s ≢ Claimed w) → c ≡ 1
ended_once s a b c h1 h2 h3 h4 = grind (arith, common_steps)

never_ended : (s : Status) (a b c : ℕ) → Counts s a b c → s ≡ Absent → c ≡ 0
never_ended s a b c x e = let y = subst (λ t. Counts t a b c) e x in y.2

-- what an option has, or something else
abbrev or_else : {A : Type 0} → A → Option A → A
or_else d None = d
or_else d (Some x) = x

-- the elements by their places are the list with its places
by_places : {A : Type 0} (d : A) (get : ℕ → Option A) (xs : List A) (a : ℕ) → ((i : ℕ) → get (a + i) ≡ slice_get xs i)
    → map (λ k. (k, or_else d (get k))) (range_with_len a (length xs)) ≡ enumerate_from a xs
by_places d get [] a same = refl
by_places d get (x ∷ xs) a same =
    let zeroth : a + 0 ≡ a = omega arith in
    let first : get a ≡ Some x = ap get (sym zeroth) ∙ same 0 in
    ap (λ o. (a, or_else d o) ∷ map (λ k. (k, or_else d (get k))) (range_with_len (a + 1) (length xs))) first
    ∙ ap (λ ys. (a, x) ∷ ys) (by_places d get xs (a + 1)
    (λ i. let next : (a + 1) + i ≡ a + suc i = omega arith in ap get next ∙ same (suc i)))

sum_flat : {A B : Type 0} (f : B → ℕ) (g : A → List B) (xs : List A) → sum_by f (flat_map g xs) ≡ sum_by (λ x. sum_by f (g x)) xs
sum_flat f g [] = refl
sum_flat f g (x ∷ xs) = grind (arith, common_steps, sum_by-append, sum_by-cons, sum_flat f g xs)

abbrev number_of : {R : Type 0} → (ℕ × Ended R) → ℕ
number_of x = x.0

others_ended : {R : Type 0} (k : ℕ) (xs : List (ℕ × Ended R)) → AllByRecursion (λ x. (k == x.0) ≡ false) xs
    → AllByRecursion (λ y. (k == y) ≡ false) (map number_of xs)
others_ended k [] a = tt
others_ended k (x ∷ xs) a = (a.0, others_ended k xs a.1)

same_length : {R : Type 0} (xs : List (ℕ × Ended R)) → length (map number_of xs) ≡ length xs
same_length xs = grind (arith, common_steps)

with_rows : {R : Type 0} (d : Ended R) (rows : List (Ended R)) (xs : List (ℕ × Ended R))
    → AllByRecursion (λ x. slice_get rows x.0 ≡ Some x.1) xs → map (λ k. (k, or_else d (slice_get rows k))) (map number_of xs) ≡ xs
with_rows d rows [] a = refl
with_rows d rows (x ∷ xs) a = grind (arith, common_steps, with_rows d rows xs a.1)

below_any : {R : Type 0} (c q : ℕ) (xs : List (ℕ × Ended R)) → AllByRecursion (λ x. x.0 < c) xs
    → list_any (λ y. q == y) (map number_of xs) ≡ true → q < c
below_any c q [] a e = absurd (cc e)
below_any c q (x ∷ xs) a e = grind (arith, common_steps, or_cases, eqb-true, below_any c q xs a.1)

module _ {J R : Type 0} where
  -- a number is posted once if it is not absent, and 0 never
  pub posted_as : (c n : ℕ) (h : List (Event J R)) → IsLegal c n h → (k : ℕ) → PostedAs (k == 0) (status h k) (posts_of k h)
  posted_as c n [] l k = first_posted (k == 0)
  posted_as c n (Post w p i j ∷ h) l k =
      grind (arith, common_steps, first_posted, post_posted, named, eqb-true, ne_eqb, keep_posted, posted_as c n h l.0 k)
  posted_as c n (Claim w i j ∷ h) l k =
      grind (arith, common_steps, first_posted, post_posted, named, eqb-true, ne_eqb, keep_posted, posted_as c n h l.0 k)
  posted_as c n (Return w i r ∷ h) l k =
      grind (arith, common_steps, first_posted, post_posted, named, eqb-true, ne_eqb, keep_posted, posted_as c n h l.0 k)
  posted_as c n (Fault w i r ∷ h) l k =
      grind (arith, common_steps, first_posted, post_posted, named, eqb-true, ne_eqb, keep_posted, posted_as c n h l.0 k)
  posted_as c n (Over w ∷ h) l k = posted_as c n h l.0 k

  -- so each number is posted once
  pub posted_once : PostedOnce J R
  posted_once c n h l = (
    let first = posted_as c n h l 0 in first.1 (start h),
    λ k nz there. let p = posted_as c n h l k in p.1 there
        ∙ ap posts_wanted (ne_eqb k 0 nz),
  )

  larger_allowed : (c d : ℕ) (h : List (Event J R)) (e : Event J R) → c ≤ d → IsAllowed c h e → IsAllowed d h e
  larger_allowed c d h e h1 h2 = grind (arith, common_steps)

  -- a legal history is legal for a larger board
  pub stays_legal : StaysLegal J R
  stays_legal c d n [] le l = tt
  stays_legal c d n (e ∷ h) le l = (stays_legal c d n h le l.0, l.1, larger_allowed c d h e le l.2)

  -- and for more workers
  pub legal_for_more : (c few many : ℕ) (h : List (Event J R)) → few ≤ many → IsLegal c few h → IsLegal c many h
  legal_for_more c few many [] le l = tt
  legal_for_more c few many (e ∷ h) le l = (legal_for_more c few many h le l.0, omega (arith, l.1), l.2)

  -- there are no more numbers than the capacity
  pub few_numbers : FewNumbers J R
  few_numbers c n m h one l has = at (cases_lt c m)
    where
      at : (c < m) ⊎ (m ≤ c) → m ≤ c
      at (inl b) = let low = within c n h l one c (λ a. let past = (has c).0 a in absurd (omega arith)) in absurd (omega arith)
      at (inr b) = b

  -- ---- a history has few ends

  apart_from : (c n : ℕ) (h : List (Event J R)) → IsLegal c n h → (w k : ℕ) → status h k ≡ Claimed w
      → AllByRecursion (λ y. (k == y) ≡ false) (map number_of (ends h))
  apart_from c n h l w k is =
      others_ended k (ends h)
      (each-map (IsGiven h) (λ x. (k == x.0) ≡ false)
      (λ x g. ne_eqb k x.0 (λ e. claimed_has_no_row c n h l w x.0 x.1 (ap (status h) (sym e) ∙ is) g)) (ends h)
      (ends_given c n h l))

  distinct : (c n : ℕ) (h : List (Event J R)) → IsLegal c n h → IsDistinct (λ a b. a == b) (map number_of (ends h))
  unfolding IsDistinct
  distinct c n [] l = tt
  distinct c n (Return w i r ∷ h) l = (apart_from c n h l.0 w i l.2, distinct c n h l.0)
  distinct c n (Fault w i r ∷ h) l = (apart_from c n h l.0 w i l.2.0, distinct c n h l.0)
  distinct c n (_ ∷ h) l = distinct c n h l.0

  -- and no more ends than numbers
  pub few_ends : FewEnds J R
  few_ends c n h one l =
      subst (λ m. m ≤ c) (same_length (ends h))
      (length-le_from_distinct_below (map number_of (ends h)) c (distinct c n h l)
      (λ q. below_any c q (ends h)
      (each-map (IsGiven h) (λ x. x.0 < c) (λ x g. let past = row_means_ended c n h l x.0 x.1 g in within c n h l one x.0 past.there)
      (ends h) (ends_given c n h l))))

  -- ---- the ends of all workers are those of the history

  abbrev ends_by : ℕ → ℕ → List (Event J R) → List (ℕ × Ended R)
  ends_by a n h = flat_map (λ w. ends (part w h)) (range_with_len a n)

  same_by : (e : Event J R) → ((q : List (Event J R)) → ends (e ∷ q) ≡ ends q) → (h : List (Event J R)) (a n : ℕ)
      → ends_by a n (e ∷ h) ≡ ends_by a n h
  same_by e h1 h a n = grind (arith, common_steps, no_end)

  outside : (e : Event J R) (h : List (Event J R)) (a n : ℕ) → worker_of e < a → ends_by a n (e ∷ h) ≡ ends_by a n h
  outside e h a zero l = refl
  outside e h a (suc n) l = grind (arith, common_steps, part_else, outside e h (a + 1) n (omega arith))

  one_by : (e : Event J R) (x : ℕ × Ended R) → ((q : List (Event J R)) → ends (e ∷ q) ≡ x ∷ ends q) → (h : List (Event J R)) (a n : ℕ)
      → a ≤ worker_of e → worker_of e < a + n
      → IsPermutation (ends_by a n (e ∷ h)) (x ∷ ends_by a n h)
  one_by e x one h a zero l b = absurd (omega arith)
  one_by e x one h a (suc n) l b = at (cases_lt a (worker_of e)) (λ low. one_by e x one h (a + 1) n (omega arith) (omega arith))
    where
      at : (a < worker_of e) ⊎ (worker_of e ≤ a)
          → (a < worker_of e → IsPermutation (ends_by (a + 1) n (e ∷ h)) (x ∷ ends_by (a + 1) n h))
          → IsPermutation (ends_by a (suc n) (e ∷ h)) (x ∷ ends_by a (suc n) h)
      at (inl low) rec =
          let rest = rec low in
          subst (λ m. IsPermutation (ends m ++ ends_by (a + 1) n (e ∷ h)) (x ∷ ends_by a (suc n) h))
          (sym (part_else a h e (λ s. absurd (omega arith))))
          (IsPermutation-trans _ _ _ (IsPermutation-append_right (ends (part a h)) _ _ rest)
          (IsPermutation-middle (ends (part a h)) x (ends_by (a + 1) n h)))
      at (inr up) rec =
          let here : ends (part a (e ∷ h)) ≡ x ∷ ends (part a h) = ap ends (part_own a h e (omega arith)) ∙ one (part a h) in
          subst (λ ys. IsPermutation ys (x ∷ ends_by a (suc n) h))
          (sym (ap (λ xs. xs ++ ends_by (a + 1) n (e ∷ h)) here ∙ ap (λ ys. x ∷ (ends (part a h) ++ ys))
          (outside e h (a + 1) n (omega arith))))
          (IsPermutation-refl (x ∷ ends_by a (suc n) h))

  none_by : (a n : ℕ) (h : List (Event J R)) → h ≡ [] → ends_by a n h ≡ []
  none_by a zero h e = refl
  none_by a (suc n) h e = ap (λ z. ends (part a z) ++ ends_by (a + 1) n h) e ∙ none_by (a + 1) n h e

  -- the ends of all parts are those of the history
  pub ends_of_parts : (c n : ℕ) (h : List (Event J R)) → IsLegal c n h → IsPermutation (ends_by 0 n h) (ends h)
  ends_of_parts c n [] l = subst (λ xs. IsPermutation xs []) (sym (none_by 0 n [] refl)) (IsPermutation-refl [])
  ends_of_parts c n (Return w i r ∷ h) l =
      IsPermutation-trans _ _ _ (one_by (Return w i r) (i, ended.Returned r) (λ q. refl) h 0 n (omega arith) (omega (arith, l.1)))
      (IsPermutation-cons (i, ended.Returned r) _ _ (ends_of_parts c n h l.0))
  ends_of_parts c n (Fault w i r ∷ h) l =
      IsPermutation-trans _ _ _ (one_by (Fault w i r) (i, ended.Faulted r) (λ q. refl) h 0 n (omega arith) (omega (arith, l.1)))
      (IsPermutation-cons (i, ended.Faulted r) _ _ (ends_of_parts c n h l.0))
  ends_of_parts c n (e ∷ h) l = subst (λ xs. IsPermutation xs (ends h)) (sym (same_by e (λ q. refl) h 0 n)) (ends_of_parts c n h l.0)

  -- ---- and the rows of a history that is over

  ends_counted : (p : ℕ) (h : List (Event J R)) → times p (map number_of (ends h)) ≡ ends_of p h
  ends_counted p [] = refl
  ends_counted p (Return w i r ∷ h) = one_more (p == i) (times p (map number_of (ends h))) (ends_of p h) (ends_counted p h)
  ends_counted p (Fault w i r ∷ h) = one_more (p == i) (times p (map number_of (ends h))) (ends_of p h) (ends_counted p h)
  ends_counted p (_ ∷ h) = ends_counted p h

  -- the numbers of the ends are those below the count, each once
  pub numbers_ended : (c n : ℕ) (h : List (Event J R)) → IsLegal c n h → IsOver h → (m : ℕ) → HasNumbers m h
      → IsPermutation (map number_of (ends h)) (range_with_len 0 m)
  numbers_ended c n h l over m has = permuted (map number_of (ends h)) (range_with_len 0 m) (λ p. ends_counted p h ∙ at p (cases_lt p m))
    where
      at : (p : ℕ) → (p < m) ⊎ (m ≤ p) → ends_of p h ≡ times p (range_with_len 0 m)
      at p (inl b) = ended_once (status h p) _ _ _ (numbers_once c n h l p) (λ a. let past = (has p).0 a in absurd (omega arith))
          (over p).0 (over p).1 ∙ sym (once_within p 0 m (omega arith) (omega (arith, b)))
      at p (inr b) = never_ended (status h p) _ _ _ (numbers_once c n h l p) ((has p).1 b) ∙ sym (not_after p 0 m (omega (arith, b)))

  rows_by : (d : Ended R) (c n : ℕ) (h : List (Event J R)) (rows : List (Ended R)) → IsLegal c n h → IsOver h
      → HasNumbers (length rows) h → ((k : ℕ) → slice_get rows k ≡ row_given h k) → IsPermutation (ends h) (enumerate_from 0 rows)
  rows_by d c n h rows l over has given =
      let f : ℕ → ℕ × Ended R = λ k. (k, or_else d (slice_get rows k)) in
      let mine : map f (map number_of (ends h)) ≡ ends h =
      with_rows d rows (ends h) (each-map (IsGiven h) (λ x. slice_get rows x.0 ≡ Some x.1) (λ x g. given x.0 ∙ g) (ends h)
      (ends_given c n h l)) in
      subst (λ xs. IsPermutation xs (enumerate_from 0 rows)) mine
      (subst (IsPermutation (map f (map number_of (ends h))))
      (by_places d (slice_get rows) rows 0 (λ i. let z : 0 + i ≡ i = omega arith in ap (slice_get rows) z))
      (IsPermutation-map f (map number_of (ends h)) (range_with_len 0 (length rows)) (numbers_ended c n h l over (length rows) has)))

  -- there is a row, since 0 is a number
  rows_of_ends : (c n : ℕ) (h : List (Event J R)) (rows : List (Ended R)) → IsLegal c n h → IsOver h → HasNumbers (length rows) h
      → ((k : ℕ) → slice_get rows k ≡ row_given h k) → IsPermutation (ends h) (enumerate_from 0 rows)
  rows_of_ends c n h [] l over has given = let none = (has 0).1 (omega arith) in absurd (start h none)
  rows_of_ends c n h (d ∷ rest) l over has given = rows_by d c n h (d ∷ rest) l over has given

  -- the rows with their numbers are the ends of all workers
  pub rows_are_ends : RowsAreEnds J R
  rows_are_ends c n root h rows l over has placed =
      IsPermutation-trans _ _ _ (ends_of_parts c n h l) (rows_of_ends c n h rows l over has placed.given)

  -- so what is summed over rows is what is summed over ends
  pub sums_of_rows : SumsOfRows J R
  sums_of_rows c n root h rows l over has placed f =
      sum_by-IsPermutation f _ _ (rows_are_ends c n root h rows l over has placed) ∙ sum_flat f (λ w. ends (part w h)) (range_with_len 0 n)

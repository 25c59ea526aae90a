-- The listing of given entries, as a value, is their listing: proofs for the law of a tree, which reads them from here.
use Rattle.std.proofs.Common.{◌≡◌, ℕ, Bool, true, false, not, cond, nat_lt, inl, inr, List, [], ◌∷◌, length, map, Result, Ok, Err, refl}
use Rattle.std.proofs.{Common.{sym, ◌∙◌, ap, subst, arith, bytes_eq}, lemmas.Cmp.nat_list_cmp_total}
use Rattle.std.proofs.lemmas.Bool.{ltb-true, ltb-false, or_cases, or_parts}
use Rattle.std.proofs.lemmas.List.{length-map}
use Rattle.std.proofs.lemmas.List.Sorted.{IsPermutation-refl, IsPermutation-cons, IsPermutation-trans, IsPermutation-insert}
use Rattle.std.proofs.lemmas.List.Sorted.{IsPermutation-map, length_permutation}
use Rattle.std.proofs.lemmas.Map.Text.{is_eq-slice_cmp}
use Rattle.std.specs.{Prelude.IfOk, List.{AllByRecursion, IsDistinct, list_any, Sorted.{IsPermutation, IsStrictlySortedBy}}, Ordering.is_lt}
use Rattle.std.specs.{Ordering.{is_eq, ordering_reverse, eq_by_cmp}, declared.cmp.Ordering.{Ordering, TheVariants.{Less, Equal, Greater}}}
use Rattle.lc_tree.specs.{ByteOrder.{bytes_cmp, AreApart, AreInOrder}, Listed.{has_twice, insert, sorted, listed}, Listing.EntryModel}
use Rattle.lc_tree.specs.Listing.{IsAnswerFor, names, have_good_names, max_entries, HaveDistinctNames}
use Rattle.lc_tree.specs.{declared.read_fault.ReadFault.{ReadFault, TheVariants.{BadName, Twice, TooMany}}, MovedEntries.good_names_moved}

module _ {X : Type 0} (name : X → List ℕ) where
  -- what holds of all holds once one more is among them
  all_inserted : (P : X → Type 0) (x : X) (ys : List X) → P x → AllByRecursion P ys → AllByRecursion P (insert name x ys)
  all_inserted P x [] first all = (first, tt)
  all_inserted P x (y ∷ ys) first all = at (is_lt (bytes_cmp (name x) (name y))) (all_inserted P x ys first all.1)
    where
      at : (b : Bool) → AllByRecursion P (insert name x ys) → AllByRecursion P (cond b (x ∷ y ∷ ys) (y ∷ insert name x ys))
      at true rest = (first, all)
      at false rest = (all.0, rest)

  all_sorted : (P : X → Type 0) (xs : List X) → AllByRecursion P xs → AllByRecursion P (sorted name xs)
  all_sorted P [] all = tt
  all_sorted P (x ∷ xs) all = all_inserted P x (sorted name xs) all.0 (all_sorted P xs all.1)

  -- what holds of the names of all
  of_names : (P : List ℕ → Type 0) (xs : List X) → AllByRecursion P (map name xs) → AllByRecursion (λ x. P (name x)) xs
  of_names P [] all = tt
  of_names P (x ∷ xs) all = (all.0, of_names P xs all.1)

  on_names : (P : List ℕ → Type 0) (xs : List X) → AllByRecursion (λ x. P (name x)) xs → AllByRecursion P (map name xs)
  on_names P [] all = tt
  on_names P (x ∷ xs) all = (all.0, on_names P xs all.1)

  -- what is above a name is above each name below it
  above_more : (a b : List ℕ) (ys : List X) → bytes_cmp a b ≡ Less → AllByRecursion (λ k. bytes_cmp b k ≡ Less) (map name ys)
      → AllByRecursion (λ k. bytes_cmp a k ≡ Less) (map name ys)
  above_more a b [] less all = tt
  above_more a b (y ∷ ys) less all = (nat_list_cmp_total.trans a b (name y) less all.0, above_more a b ys less all.1)

  inserted_in_order : (x : X) (ys : List X) → AllByRecursion (λ k. eq_by_cmp bytes_cmp (name x) k ≡ false) (map name ys)
      → AreInOrder (map name ys) → AreInOrder (map name (insert name x ys))
  unfolding IsStrictlySortedBy
  inserted_in_order x [] other order = (tt, tt)
  inserted_in_order x (y ∷ ys) other order = at (bytes_cmp (name x) (name y)) refl (inserted_in_order x ys other.1 order.1)
    where
      at : (o : Ordering) → bytes_cmp (name x) (name y) ≡ o → AreInOrder (map name (insert name x ys))
          → AreInOrder (map name (cond (is_lt o) (x ∷ y ∷ ys) (y ∷ insert name x ys)))
      at Less e rest = ((e, above_more (name x) (name y) ys e order.0), order)
      at Equal e rest = let same : true ≡ false = sym (ap is_eq e) ∙ other.0 in absurd (cc same)
      at Greater e rest = (
        on_names (λ k. bytes_cmp (name y) k ≡ Less) (insert name x ys)
            (all_inserted (λ z. bytes_cmp (name y) (name z) ≡ Less) x ys
            (nat_list_cmp_total.antisymm (name y) (name x) ∙ ap ordering_reverse e)
            (of_names (λ k. bytes_cmp (name y) k ≡ Less) ys order.0)),
        rest,
      )

  sorted_in_order : (xs : List X) → AreApart (map name xs) → AreInOrder (map name (sorted name xs))
  unfolding IsStrictlySortedBy IsDistinct
  sorted_in_order [] apart = tt
  sorted_in_order (x ∷ xs) apart =
      let other = λ (k : List ℕ). eq_by_cmp bytes_cmp (name x) k ≡ false in
      inserted_in_order x (sorted name xs) (on_names other (sorted name xs)
      (all_sorted (λ y. other (name y)) xs (of_names other xs apart.0))) (sorted_in_order xs apart.1)

  inserted_is : (x : X) (ys : List X) → IsPermutation (x ∷ ys) (insert name x ys)
  inserted_is x [] = IsPermutation-refl (x ∷ [])
  inserted_is x (y ∷ ys) = at (is_lt (bytes_cmp (name x) (name y))) (inserted_is x ys)
    where
      at : (b : Bool) → IsPermutation (x ∷ ys) (insert name x ys) → IsPermutation (x ∷ y ∷ ys) (cond b (x ∷ y ∷ ys) (y ∷ insert name x ys))
      at true rest = IsPermutation-refl (x ∷ y ∷ ys)
      at false rest = IsPermutation-trans (x ∷ y ∷ ys) (y ∷ x ∷ ys) (y ∷ insert name x ys) (IsPermutation-insert (y ∷ ys) 1 x)
          (IsPermutation-cons y (x ∷ ys) (insert name x ys) rest)

  -- sorting moves elements and no more
  pub sorted_is : (xs : List X) → IsPermutation xs (sorted name xs)
  sorted_is [] = IsPermutation-refl []
  sorted_is (x ∷ xs) =
      IsPermutation-trans (x ∷ xs) (x ∷ sorted name xs) (insert name x (sorted name xs))
      (IsPermutation-cons x xs (sorted name xs) (sorted_is xs)) (inserted_is x (sorted name xs))

-- ---- whether a name stands twice

none_same : (n : List ℕ) (ns : List (List ℕ)) → list_any (bytes_eq n) ns ≡ false → AllByRecursion (λ k. eq_by_cmp bytes_cmp n k ≡ false) ns
none_same n [] e = tt
none_same n (k ∷ ks) e = let t = or_parts (bytes_eq n k) (list_any (bytes_eq n) ks) e in (is_eq-slice_cmp n k ∙ t.0, none_same n ks t.1)

one_same : (n : List ℕ) (ns : List (List ℕ)) → list_any (bytes_eq n) ns ≡ true
    → AllByRecursion (λ k. eq_by_cmp bytes_cmp n k ≡ false) ns → ⊥
one_same n [] e all = cc
one_same n (k ∷ ks) e all =
    elim (or_cases (bytes_eq n k) (list_any (bytes_eq n) ks) e) [
      | inl same ↦ let h : true ≡ false = sym same ∙ (sym (is_eq-slice_cmp n k) ∙ all.0) in absurd (cc h)
      | inr more ↦ one_same n ks more all.1
    ]

apart_if_once : (ns : List (List ℕ)) → has_twice ns ≡ false → AreApart ns
unfolding IsDistinct
apart_if_once [] e = tt
apart_if_once (n ∷ ns) e = let t = or_parts (list_any (bytes_eq n) ns) (has_twice ns) e in (none_same n ns t.0, apart_if_once ns t.1)

not_apart_if_twice : (ns : List (List ℕ)) → has_twice ns ≡ true → AreApart ns → ⊥
unfolding IsDistinct
not_apart_if_twice [] e apart = cc
not_apart_if_twice (n ∷ ns) e apart =
    elim (or_cases (list_any (bytes_eq n) ns) (has_twice ns) e) [
      | inl here ↦ one_same n ns here apart.0
      | inr more ↦ not_apart_if_twice ns more apart.1
    ]

-- ---- the answer

abbrev pub ItemsFor : {X : Type 0} → (X → EntryModel) → List X → Result (List X) ReadFault → Type 0
ItemsFor entry xs (Ok ys) = IsAnswerFor (map entry xs) (Ok (map entry ys))
ItemsFor entry xs (Err fault) = IsAnswerFor (map entry xs) (Err fault)

names_there : {X : Type 0} (entry : X → EntryModel) (xs : List X) → names (map entry xs) ≡ map (λ x. (entry x).name) xs
names_there entry [] = refl
names_there entry (x ∷ xs) = ap (λ l. (entry x).name ∷ l) (names_there entry xs)

-- listing things that are entries gives what these entries give
pub listed_is : {X : Type 0} (entry : X → EntryModel) (xs : List X) → ItemsFor entry xs (listed entry xs)
listed_is {X} entry xs = at (have_good_names (map entry xs)) refl
  where
    few : (b : Bool) → have_good_names (map entry xs) ≡ true → AreApart (names (map entry xs)) → nat_lt max_entries (length xs) ≡ b →
        ItemsFor entry xs (cond b (Err TooMany) (Ok (sorted (λ x. (entry x).name) xs)))
    few true good apart e = (good, apart, rw (length-map xs entry) (ltb-true max_entries (length xs) e))
    few false good apart e =
        let moved : IsPermutation (map entry xs) (map entry (sorted (λ x. (entry x).name) xs)) =
        IsPermutation-map entry xs (sorted (λ x. (entry x).name) xs) (sorted_is (λ x. (entry x).name) xs) in record {
          entries = moved;
          listing = record {
            good = good_names_moved (map entry xs) (map entry (sorted (λ x. (entry x).name) xs)) moved good;
            order = subst AreInOrder (sym (names_there entry (sorted (λ x. (entry x).name) xs)))
                (sorted_in_order (λ x. (entry x).name) xs (subst AreApart (names_there entry xs) apart));
            few = omega (
              arith,
              ltb-false max_entries (length xs) e,
              length_permutation xs (sorted (λ x. (entry x).name) xs) (sorted_is (λ x. (entry x).name) xs),
              length-map (sorted (λ x. (entry x).name) xs) entry,
            );
          };
        }

    once : (b : Bool) → have_good_names (map entry xs) ≡ true → has_twice (names (map entry xs)) ≡ b →
        ItemsFor entry xs (cond b (Err Twice) (cond (nat_lt max_entries (length xs)) (Err TooMany) (Ok (sorted (λ x. (entry x).name) xs))))
    once true good e = (good, not_apart_if_twice (names (map entry xs)) e)
    once false good e = few (nat_lt max_entries (length xs)) good (apart_if_once (names (map entry xs)) e) refl

    at : (b : Bool) → have_good_names (map entry xs) ≡ b →
        ItemsFor entry xs (cond (not b) (Err BadName) (cond (has_twice (names (map entry xs))) (Err Twice)
        (cond (nat_lt max_entries (length xs)) (Err TooMany) (Ok (sorted (λ x. (entry x).name) xs)))))
    at true e = once (has_twice (names (map entry xs))) e refl
    at false e = e

-- what holds of entries with good and distinct names holds of those that are listed
pub all_listed : {X : Type 0} (entry : X → EntryModel) (P : X → Type 0) (xs : List X) →
    (have_good_names (map entry xs) ≡ true → HaveDistinctNames (map entry xs) → AllByRecursion P xs)
    → IfOk (listed entry xs) (AllByRecursion P)
all_listed {X} entry P xs all =
    at (have_good_names (map entry xs)) refl (has_twice (names (map entry xs))) refl (nat_lt max_entries (length xs))
  where
    at : (good : Bool) → have_good_names (map entry xs) ≡ good → (twice : Bool) → has_twice (names (map entry xs)) ≡ twice → (many : Bool) →
        IfOk (cond (not good) (Err BadName) (cond twice (Err Twice) (cond many (Err TooMany) (Ok (sorted (λ x. (entry x).name) xs)))))
        (AllByRecursion P)
    at false g twice t many = tt
    at true g true t many = tt
    at true g false t true = tt
    at true g false t false = all_sorted (λ x. (entry x).name) P xs (all g (apart_if_once (names (map entry xs)) t))

-- Parts in the order of their keys, added to rows one by one.
use Rattle.std.proofs.lemmas.Grind.{common_steps}
use Rattle.std.proofs.Common.{◌≡◌, ℕ, ◌+◌, Bool, true, false, cond, ◌||◌, List, [], ◌∷◌, ◌++◌, map, length, get_or, suc, refl, sym, ◌∙◌}
use Rattle.std.proofs.{Common.{ap, subst, arith, append_assoc}, lemmas.List.{map_push, Folds.list_any-append}}
use Rattle.std.proofs.lemmas.List.{Sorted.{list_any-IsPermutation, sum_by-IsPermutation}, Sums.{sum_by-append, sum_by-cons}}
use Rattle.std.specs.{Bool.MatchBool, List.{AllByRecursion, filter, list_any, sum_by}}
use Rattle.std.specs.{List.Sorted.{IsPermutation, IsSortedByKey, IsStrictlySortedBy}, Cmp.IsTotalOrder, Ordering.{is_eq, is_lt}}
use Rattle.std.specs.{Ordering.ordering_reverse, declared.cmp.Ordering.{Ordering, TheVariants.{Less, Equal, Greater}}}
use Rattle.lc_walk.proofs.{Filtered.{part, sum_by-filter}, Keys.equal_if, RowSums.{AddsAlike, same_sums}}
use Rattle.lc_walk.specs.{Sums.plus, declared.tally.sums.Sums.Sums}
use Rattle.lc_rows.specs.{AddingUp.IsAdded, RowKeys.{RowKey, ShownRowModel, AreInRowOrder, has_within, row_key, row_key_cmp, row_with}}
use Rattle.lc_rows.specs.{RowKeys.{rows_within, same_row_key, sums_of_shown}, ShownRows.AreAddedUp}
use Rattle.lc_rows.proofs.SameKeys.{exact_row_keys, row_key_cmp_total}

-- what a row gives to the sum of a number over a set of keys
abbrev gives : (RowKey → Bool) → (Sums → ℕ) → ShownRowModel → ℕ
gives keys v = part (λ (r : ShownRowModel). keys (row_key r)) (λ (r : ShownRowModel). v r.sums)

-- two lists of rows have the same sums and the same keys
pub record AreAlike (old new : List ShownRowModel) : Type 0 where
  pub sums : (keys : RowKey → Bool) (v : Sums → ℕ) → AddsAlike v
      → sum_by (part (λ (r : ShownRowModel). keys (row_key r)) (λ (r : ShownRowModel). v r.sums)) new
      ≡ sum_by (part (λ (r : ShownRowModel). keys (row_key r)) (λ (r : ShownRowModel). v r.sums)) old
  pub present : (keys : RowKey → Bool) → has_within keys new ≡ has_within keys old

alike_refl : (rows : List ShownRowModel) → AreAlike rows rows
alike_refl rows = record { sums = λ keys v adds. refl; present = λ keys. refl }

alike_further : (xs ys zs : List ShownRowModel) → AreAlike xs ys → AreAlike ys zs → AreAlike xs zs
alike_further xs ys zs a b = record {
  sums = λ keys v adds. b.sums keys v adds ∙ a.sums keys v adds;
  present = λ keys. b.present keys ∙ a.present keys;
}

-- the same rows in another order
pub alike_permuted : (xs ys : List ShownRowModel) → IsPermutation xs ys → AreAlike xs ys
alike_permuted xs ys moved = grind (arith, common_steps, sum_by-IsPermutation, list_any-IsPermutation)

-- the sums over the rows of a set of keys
pub alike_sums : (xs ys : List ShownRowModel) → AreAlike xs ys → (keys : RowKey → Bool)
    → sums_of_shown (rows_within keys ys) ≡ sums_of_shown (rows_within keys xs)
alike_sums xs ys alike keys =
    let p : ShownRowModel → Bool = λ r. keys (row_key r) in
    let one : (v : Sums → ℕ) → AddsAlike v → sum_by (λ (r : ShownRowModel). v r.sums) (filter p ys)
    ≡ sum_by (λ (r : ShownRowModel). v r.sums) (filter p xs) =
    λ v adds. sum_by-filter p (λ (r : ShownRowModel). v r.sums) ys ∙ alike.sums keys v adds
    ∙ sym (sum_by-filter p (λ (r : ShownRowModel). v r.sums) xs) in
    same_sums _ _ (one (λ s. s.files) (λ a b. refl)) (one (λ s. s.lines) (λ a b. refl)) (one (λ s. s.blank) (λ a b. refl))
    (one (λ s. s.bytes) (λ a b. refl))

-- one row in place of two of its key
gives_both : (b : Bool) (u m w : ℕ) → w ≡ u + m → cond b w 0 ≡ cond b u 0 + cond b m 0
gives_both true u m w e = e
gives_both false u m w e = refl

once : (b c d : Bool) → c ≡ b → (b || d) ≡ (b || (c || d))
once true c d e = refl
once false true d e = absurd (cc)
once false false d e = refl

alike_absorbed : (rows rest : List ShownRowModel) (last part : ShownRowModel) → row_key part ≡ row_key last
    → AreAlike (rows ++ last ∷ part ∷ rest) (rows ++ row_with (row_key last) (plus last.sums part.sums) ∷ rest)
alike_absorbed rows rest last part same =
    let next : ShownRowModel = row_with (row_key last) (plus last.sums part.sums) in
    record {
      sums = λ keys v adds.
          let one : gives keys v next ≡ gives keys v last + gives keys v part =
          gives_both (keys (row_key last)) (v last.sums) (v part.sums) (v (plus last.sums part.sums)) (adds last.sums part.sums)
          ∙ ap (λ k. gives keys v last + cond (keys k) (v part.sums) 0) (sym same) in
          omega (
            arith,
            one,
            sum_by-append (gives keys v) rows (next ∷ rest),
            sum_by-append (gives keys v) rows (last ∷ part ∷ rest),
            sum_by-cons (gives keys v) next rest,
            sum_by-cons (gives keys v) last (part ∷ rest),
            sum_by-cons (gives keys v) part rest,
          );
      present = λ keys.
          let p : ShownRowModel → Bool = λ r. keys (row_key r) in
          list_any-append p rows (next ∷ rest)
          ∙ ap (λ b. list_any p rows || b) (once (keys (row_key last)) (keys (row_key part)) (list_any p rest) (ap keys same))
          ∙ sym (list_any-append p rows (last ∷ part ∷ rest));
    }

-- no key is less than the one before it
abbrev Rises : RowKey → List ShownRowModel → Type 0
Rises k [] = Unit {0}
Rises k (r ∷ rs) = (is_lt (row_key_cmp (row_key r) k) ≡ false) × Rises (row_key r) rs

sorted_rest : (r : ShownRowModel) (rs : List ShownRowModel) → IsSortedByKey row_key row_key_cmp (r ∷ rs)
    → IsSortedByKey row_key row_key_cmp rs
sorted_rest r rs sorted k d low high =
    let next : suc k + 1 ≡ suc (k + 1) = omega arith in
    subst (λ n. is_lt (row_key_cmp (row_key (get_or (r ∷ rs) n d)) (row_key (get_or rs k d))) ≡ false) next
    (sorted (suc k) d (omega arith) (omega arith))

rises : (r : ShownRowModel) (rs : List ShownRowModel) → IsSortedByKey row_key row_key_cmp (r ∷ rs) → Rises (row_key r) rs
rises r [] sorted = tt
rises r (x ∷ xs) sorted =
    (sorted 0 r (omega arith) (omega arith), rises x xs (sorted_rest r (x ∷ xs) sorted))

-- a key behind all others
module _ {K : Type 0} {R : K → K → Ordering} (total : IsTotalOrder R) where
  above_all : (j k x : K) (ks : List K) → R k x ≡ Less → AllByRecursion (λ y. R j y ≡ Less) (ks ++ k ∷ [])
      → AllByRecursion (λ y. R j y ≡ Less) (ks ++ k ∷ x ∷ [])
  above_all j k x [] less all = (all.0, (total.trans j k x all.0 less, tt))
  above_all j k x (y ∷ ys) less all = (all.0, above_all j k x ys less all.1)

  pub strict_push : (ks : List K) (k x : K) → R k x ≡ Less → IsStrictlySortedBy R (ks ++ k ∷ []) → IsStrictlySortedBy R (ks ++ k ∷ x ∷ [])
  unfolding IsStrictlySortedBy
  strict_push [] k x less strict = ((less, tt), (tt, tt))
  strict_push (j ∷ js) k x less strict = (above_all j k x js less strict.0, strict_push js k x less strict.1)

-- what is neither less nor the same is greater
greater : (o p : Ordering) → o ≡ ordering_reverse p → is_lt p ≡ false → is_eq o ≡ false → o ≡ Less
greater o p e f g = grind (arith, common_steps)

-- some parts were added to rows, and the rest of the parts is still to be added
pub record IsFolded (parts rows : List ShownRowModel) (last : ShownRowModel) (rest : List ShownRowModel) : Type 0 where
  pub alike : AreAlike parts (rows ++ last ∷ rest)
  pub order : AreInRowOrder (rows ++ last ∷ [])
  pub rises : Rises (row_key last) rest

-- at first the last row is the first part
pub folded_first : (parts rest : List ShownRowModel) (first last : ShownRowModel) → IsSortedByKey row_key row_key_cmp parts
    → parts ≡ first ∷ rest → last ≡ first → IsFolded parts [] last rest
unfolding IsStrictlySortedBy
folded_first parts rest first last sorted are is =
    subst (λ ps. IsFolded ps [] last rest) (sym are)
    (subst (λ (l : ShownRowModel). IsFolded (first ∷ rest) [] l rest) (sym is) (record {
      alike = alike_refl (first ∷ rest);
      order = (tt, tt);
      rises = rises first rest (subst (IsSortedByKey row_key row_key_cmp) are sorted);
    }))

folded_by : (parts rows rest : List ShownRowModel) (last part : ShownRowModel) (rows_after : List ShownRowModel)
    (last_after : ShownRowModel) (b : Bool) → same_row_key (row_key last) (row_key part) ≡ b
    → MatchBool b ((rows_after ≡ rows) × (last_after ≡ row_with (row_key last) (plus last.sums part.sums)))
    ((rows_after ≡ rows ++ last ∷ []) × (last_after ≡ part)) → IsFolded parts rows last (part ∷ rest)
    → IsFolded parts rows_after last_after rest
folded_by parts rows rest last part rows_after last_after true same (are, is) folded =
    let key : row_key last ≡ row_key part = exact_row_keys (row_key last) (row_key part) (equal_if _ same) in
    subst (λ rs. IsFolded parts rs last_after rest) (sym are)
    (subst (λ (l : ShownRowModel). IsFolded parts rows l rest) (sym is) (record {
      alike = alike_further parts (rows ++ last ∷ part ∷ rest) _ folded.alike (alike_absorbed rows rest last part (sym key));
      order = subst (IsStrictlySortedBy row_key_cmp) (map_push row_key rows last
          ∙ sym (map_push row_key rows (row_with (row_key last) (plus last.sums part.sums)))) folded.order;
      rises = subst (λ k. Rises k rest) (sym key) folded.rises.1;
    }))
folded_by parts rows rest last part rows_after last_after false other (are, is) folded =
    let less : row_key_cmp (row_key last) (row_key part) ≡ Less =
    greater _ _ (row_key_cmp_total.antisymm (row_key last) (row_key part)) folded.rises.0 other in
    let keys : List RowKey = map row_key rows in
    subst (λ rs. IsFolded parts rs last_after rest) (sym are)
    (subst (λ (l : ShownRowModel). IsFolded parts (rows ++ last ∷ []) l rest) (sym is) (record {
      alike = subst (AreAlike parts) (sym (append_assoc rows (last ∷ []) (part ∷ rest))) folded.alike;
      order = subst (IsStrictlySortedBy row_key_cmp) (sym (map_push row_key (rows ++ last ∷ []) part
          ∙ ap (λ ks. ks ++ row_key part ∷ []) (map_push row_key rows last)
          ∙ append_assoc keys (row_key last ∷ []) (row_key part ∷ [])))
          (strict_push row_key_cmp_total keys (row_key last) (row_key part) less
          (subst (IsStrictlySortedBy row_key_cmp) (map_push row_key rows last) folded.order));
      rises = folded.rises.1;
    }))

-- one part more
pub folded_more : (parts rows rest others : List ShownRowModel) (last part : ShownRowModel) (rows_after : List ShownRowModel)
    (last_after : ShownRowModel) → rest ≡ part ∷ others → IsAdded rows last part rows_after last_after
    → IsFolded parts rows last rest → IsFolded parts rows_after last_after others
folded_more parts rows rest others last part rows_after last_after are added folded =
    folded_by parts rows others last part rows_after last_after _ refl added (subst (IsFolded parts rows last) are folded)

-- after the last part
pub folded_all : (parts rows all : List ShownRowModel) (last : ShownRowModel) (rest : List ShownRowModel) → rest ≡ []
    → all ≡ rows ++ last ∷ [] → IsFolded parts rows last rest → AreAddedUp parts all
folded_all parts rows all last rest none are folded = grind (arith, common_steps, alike_sums)

-- no parts add up to no rows
pub folded_none : (parts : List ShownRowModel) → length parts ≡ 0 → AreAddedUp parts []
unfolding IsStrictlySortedBy
folded_none [] none = record { sums = λ keys. refl; present = λ keys. refl; order = tt }
folded_none (p ∷ ps) none = absurd (omega arith)

-- what sorted parts add up to, the parts do
pub added_sorted : (parts sorted rows : List ShownRowModel) → IsPermutation parts sorted → AreAddedUp sorted rows → AreAddedUp parts rows
added_sorted parts sorted rows moved added =
    let alike = alike_permuted parts sorted moved in
    record {
      sums = λ keys. added.sums keys ∙ alike_sums parts sorted alike keys;
      present = λ keys. added.present keys ∙ alike.present keys;
      order = added.order;
    }

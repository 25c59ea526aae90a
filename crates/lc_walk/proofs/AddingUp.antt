-- Rows in order, of which those of one key are made one row.
use Rattle.std.proofs.lemmas.Grind.{common_steps}
use Rattle.std.proofs.lemmas.List.{get_or-map, length-map, Sums.sum_by-cons, Elements.{All-cons, All-tail}, Kept.IsStrictlySortedBy-dedup}
use Rattle.std.proofs.Common.{◌≡◌, ℕ, ◌+◌, ◌<◌, Bool, true, false, List, [], ◌∷◌, map, get_or, refl, sym, ◌∙◌, ap, arith, subst}
use Rattle.std.specs.{Bool.MatchBool, List.{sum_by, dedup, dedup_from, Retain.{DedupsFrom, IsDeduped}}}
use Rattle.std.specs.{List.Sorted.{IsPermutation, IsSorted, IsSortedByKey, IsStrictlySortedBy}, declared.cmp.Ordering.TheVariants.Equal}
use Rattle.lc_walk.specs.{Key.{Key, key_cmp, same_key}, TallyRows.{TallyRowModel, sums_of_rows, HasSumsOf, AddsUp, IsAbsorbed}, Sums.plus}
use Rattle.lc_walk.specs.{Sums.{no_files, IsInRange}, declared.tally.sums.Sums.Sums}
use Rattle.lc_walk.proofs.{Keys.{key_cmp_total, equal_if}, Totals.same_totals, RowSums.{gives, SeesKeys, AddsAlike, has_sums, has_same}}
use Rattle.lc_walk.proofs.RowSums.{has_further, has_both, has_permuted, same_sums}

-- the sums over some of the rows are in range where those over all are
range_of_part : (a b s : Sums) → s ≡ plus a b → IsInRange s → (c : Sums) → c ≡ b → IsInRange c
range_of_part a b s is r c same = grind (arith, common_steps)

-- sums over one row more at the front
pub sums_cons : (x : TallyRowModel) (xs : List TallyRowModel) → sums_of_rows (x ∷ xs) ≡ plus x.sums (sums_of_rows xs)
sums_cons x xs = grind (arith, common_steps, same_sums, sum_by-cons)

-- the sums over two rows at the front are in range
range_of_two : (k x : TallyRowModel) (xs : List TallyRowModel) → IsInRange (sums_of_rows (k ∷ x ∷ xs)) → IsInRange (plus k.sums x.sums)
range_of_two k x xs r = grind (arith, common_steps, sums_cons, same_sums, range_of_part)

same_rows : (a b : TallyRowModel) → a.key ≡ b.key → a.sums ≡ b.sums → a ≡ b
same_rows a b k s = λ i. record { key = k i; sums = s i }

-- one row in place of two of its key
module _ (k x y : TallyRowModel) (xs : List TallyRowModel) (alike : key_cmp x.key k.key ≡ Equal) (key : y.key ≡ k.key)
    (sums : y.sums ≡ plus k.sums x.sums) where
  gives_alike : (p : TallyRowModel → Bool) (v : Sums → ℕ) → SeesKeys p → AddsAlike v
      → sum_by (gives p v) (y ∷ xs) ≡ sum_by (gives p v) (k ∷ x ∷ xs)
  gives_alike p v sees adds = grind (arith, common_steps, gives, sum_by-cons)

  one_for_two : HasSumsOf (k ∷ x ∷ xs) (y ∷ xs)
  one_for_two = has_sums (k ∷ x ∷ xs) (y ∷ xs) gives_alike (λ all.
      let P : TallyRowModel → Type 0 = λ r. 0 < r.sums.files in
      let first : 0 < k.sums.files = all 0 k (omega arith) in
      let grown : y.sums.files ≡ k.sums.files + x.sums.files = ap (λ (u : Sums). u.files) sums in
      All-cons P y xs (omega arith) (All-tail P x xs (All-tail P k (x ∷ xs) all)))

abbrev key_in_row : TallyRowModel → Key
key_in_row r = r.key

-- what a call showed and left
pub absorbed_as : (a b c d x k y l : TallyRowModel) (t : Bool) → a ≡ x → b ≡ k → c ≡ y → d ≡ l → IsAbsorbed a b t c d → IsAbsorbed x k t y l
absorbed_as a b c d x k y l t is_x is_k is_y is_l absorbed = grind (arith, common_steps)

sorted_keys : (xs : List TallyRowModel) → IsSortedByKey key_in_row key_cmp xs → IsSorted key_cmp (map key_in_row xs)
sorted_keys xs sorted n d low high =
    let at : TallyRowModel = get_or xs n (record { key = d; sums = no_files }) in
    rw (
      get_or-map key_in_row xs n at d (omega (arith, length-map xs key_in_row)),
      get_or-map key_in_row xs (n + 1) at d (omega (arith, length-map xs key_in_row)),
    )
    (sorted n at low (omega (arith, length-map xs key_in_row)))

module _ {S : Type 0} (R : S → TallyRowModel → TallyRowModel → Bool → S → TallyRowModel → TallyRowModel → Type 0)
    (absorbs : (s : S) (x k : TallyRowModel) (b : Bool) (t : S) (y l : TallyRowModel) → R s x k b t y l → IsAbsorbed x k b y l) where
  -- what is left where k is the last row so far
  abbrev Leaves : List TallyRowModel → Type 0
  Leaves xs = (s : S) (k : TallyRowModel) (ys : List TallyRowModel) → DedupsFrom R s k xs ys → IsInRange (sums_of_rows (k ∷ xs))
      → HasSumsOf (k ∷ xs) ys

  leaves_step : (b : Bool) (t : S) (k x y l : TallyRowModel) (xs ys : List TallyRowModel) → Leaves xs → IsAbsorbed x k b y l
      → MatchBool b (DedupsFrom R t l xs ys) ((zs : List TallyRowModel) × DedupsFrom R t y xs zs × (ys ≡ l ∷ zs))
      → IsInRange (sums_of_rows (k ∷ x ∷ xs)) → HasSumsOf (k ∷ x ∷ xs) ys
  leaves_step true t k x y l xs ys rest step left room =
      let fits : IsInRange (plus k.sums x.sums) = range_of_two k x xs room in
      let both = one_for_two k x l xs (equal_if _ (sym step.test)) step.key (step.sums fits) in
      let same = same_totals (l ∷ xs) (k ∷ x ∷ xs) both.sums in
      has_further (k ∷ x ∷ xs) (l ∷ xs) ys both (rest t l ys left (subst IsInRange (sym same) room))
  leaves_step false t k x y l xs ys rest step left room =
      let fits : IsInRange (plus k.sums x.sums) = range_of_two k x xs room in
      let last : l ≡ k = same_rows l k step.key (step.sums fits) in
      let tail = rest t x left.0 (subst (λ z. DedupsFrom R t z xs left.0) step.lent left.1)
      (range_of_part k.sums (sums_of_rows (x ∷ xs)) _ (sums_cons k (x ∷ xs)) room _ refl) in
      subst (HasSumsOf (k ∷ x ∷ xs)) (sym (left.2 ∙ ap (λ z. z ∷ left.0) last))
      (has_both (k ∷ []) (k ∷ []) (x ∷ xs) left.0 (has_same (k ∷ [])) tail)

  leaves : (xs : List TallyRowModel) → Leaves xs
  leaves [] s k ys left room = subst (HasSumsOf (k ∷ [])) (sym left) (has_same (k ∷ []))
  leaves (x ∷ xs) s k ys left room = grind (arith, common_steps, has_same, leaves_step, leaves xs)

  -- the keys that are left
  abbrev LeavesKeys : List TallyRowModel → Type 0
  LeavesKeys xs = (s : S) (k : TallyRowModel) (ys : List TallyRowModel) → DedupsFrom R s k xs ys
      → map key_in_row ys ≡ dedup_from same_key k.key (map key_in_row xs)

  leaves_keys : (xs : List TallyRowModel) → LeavesKeys xs
  leaves_keys [] s k ys left = ap (map key_in_row) left
  leaves_keys (x ∷ xs) s k ys left = grind (arith, common_steps, leaves_keys xs)

  keys_left : (s : S) (xs ys : List TallyRowModel) → IsDeduped R s xs ys → map key_in_row ys ≡ dedup same_key (map key_in_row xs)
  keys_left s xs ys left = grind (arith, common_steps, leaves_keys)

  sums_left : (s : S) (xs ys : List TallyRowModel) → IsDeduped R s xs ys → IsInRange (sums_of_rows xs) → HasSumsOf xs ys
  sums_left s xs ys left room = grind (arith, common_steps, has_same, leaves)

  -- rows are added up that are sorted, and of which each is then absorbed by the last one before it where both have one key
  pub added_up : (s : S) (rs xs ys : List TallyRowModel) → IsPermutation rs xs → IsSortedByKey key_in_row key_cmp xs
      → IsDeduped R s xs ys → IsInRange (sums_of_rows rs) → AddsUp rs ys
  added_up s rs xs ys moved sorted left room =
      let same = has_permuted rs xs moved in record {
        same = has_further rs xs ys same (sums_left s xs ys left (subst IsInRange (sym (same_totals xs rs same.sums)) room));
        order = subst (IsStrictlySortedBy key_cmp) (sym (keys_left s xs ys left))
            (IsStrictlySortedBy-dedup key_cmp_total (λ a b. refl) (map key_in_row xs) (sorted_keys xs sorted));
      }

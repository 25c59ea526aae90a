-- The sums of rows.
use Rattle.std.proofs.lemmas.Grind.{common_steps}
use Rattle.std.proofs.Common.{◌≡◌, ℕ, ◌+◌, ◌<◌, Bool, List, [], ◌∷◌, ◌++◌, refl, sym, ◌∙◌, ap, arith, length, subst, length-append}
use Rattle.std.proofs.{Common.zero-add, lemmas.List.{get_or_append_left, get_or-append-add, Sums.sum_by-append}}
use Rattle.std.proofs.lemmas.List.{Elements.{All-append, filter-append}, Sorted.{sum_by-IsPermutation, All-permutation}}
use Rattle.std.specs.{List.{filter, sum_by, All, Sorted.IsPermutation}, declared.cmp.Ordering.TheVariants.Equal}
use Rattle.lc_walk.specs.{Key.{Key, key_cmp, same_key}, TallyRows.{TallyRowModel, sums_of_rows, rows_with, HasSumsOf}, Sums.plus}
use Rattle.lc_walk.specs.declared.tally.sums.Sums.{Sums}
use Rattle.lc_walk.proofs.{Filtered.{part, sum_by-filter}, Keys.same_to_all}

-- sums with the same fields are the same
pub same_sums : (a b : Sums) → a.files ≡ b.files → a.lines ≡ b.lines → a.blank ≡ b.blank → a.bytes ≡ b.bytes → a ≡ b
same_sums a b f l k n = λ i. record { files = f i; lines = l i; blank = k i; bytes = n i }

-- a test of rows that sees their keys alone
abbrev pub SeesKeys : (TallyRowModel → Bool) → Type 0
SeesKeys p = (a b : TallyRowModel) → key_cmp a.key b.key ≡ Equal → p a ≡ p b

-- a number of sums that adds up as they do
abbrev pub AddsAlike : (Sums → ℕ) → Type 0
AddsAlike v = (a b : Sums) → v (plus a b) ≡ v a + v b

-- what a row gives to the sum of a number over the rows that pass a test
abbrev pub gives : (TallyRowModel → Bool) → (Sums → ℕ) → TallyRowModel → ℕ
gives p v = part p (λ (r : TallyRowModel). v r.sums)

-- two lists give the same to each such sum
abbrev pub GiveAlike : List TallyRowModel → List TallyRowModel → Type 0
GiveAlike xs ys = (p : TallyRowModel → Bool) (v : Sums → ℕ) → SeesKeys p → AddsAlike v → sum_by (gives p v) ys ≡ sum_by (gives p v) xs

sees_key : (k : Key) → SeesKeys (λ (r : TallyRowModel). same_key k r.key)
sees_key k a b e = same_to_all a.key b.key k e

-- then the sums over the rows of each key are the same
pub has_sums : (xs ys : List TallyRowModel) → GiveAlike xs ys
    → (All (λ r. 0 < r.sums.files) xs → All (λ r. 0 < r.sums.files) ys) → HasSumsOf xs ys
has_sums xs ys alike filled =
    let one : (p : TallyRowModel → Bool) → SeesKeys p → (v : Sums → ℕ) → AddsAlike v
    → sum_by (λ (r : TallyRowModel). v r.sums) (filter p ys) ≡ sum_by (λ (r : TallyRowModel). v r.sums) (filter p xs) =
    λ p sees v adds. sum_by-filter p (λ (r : TallyRowModel). v r.sums) ys ∙ alike p v sees adds
    ∙ sym (sum_by-filter p (λ (r : TallyRowModel). v r.sums) xs) in
    record {
      sums = λ k. same_sums _ _ (one _ (sees_key k) (λ s. s.files) (λ a b. refl)) (one _ (sees_key k) (λ s. s.lines) (λ a b. refl))
          (one _ (sees_key k) (λ s. s.blank) (λ a b. refl)) (one _ (sees_key k) (λ s. s.bytes) (λ a b. refl));
      filled = filled;
    }

pub has_same : (xs : List TallyRowModel) → HasSumsOf xs xs
has_same xs = record { sums = λ k. refl; filled = λ f. f }

pub has_further : (xs ys zs : List TallyRowModel) → HasSumsOf xs ys → HasSumsOf ys zs → HasSumsOf xs zs
has_further xs ys zs a b = record { sums = λ k. b.sums k ∙ a.sums k; filled = λ f. b.filled (a.filled f) }

-- the same rows in another order
pub has_permuted : (xs ys : List TallyRowModel) → IsPermutation xs ys → HasSumsOf xs ys
has_permuted xs ys moved = has_sums xs ys (λ p v sees adds. sum_by-IsPermutation (gives p v) xs ys moved)
    (All-permutation (λ (r : TallyRowModel). 0 < r.sums.files) xs ys moved)

-- sums over the rows of both lists
pub sums_of_both : (xs ys : List TallyRowModel) → sums_of_rows (xs ++ ys) ≡ plus (sums_of_rows xs) (sums_of_rows ys)
sums_of_both xs ys = grind (arith, common_steps, same_sums, sum_by-append)

pub key_sums_of_both : (k : Key) (xs ys : List TallyRowModel)
    → sums_of_rows (rows_with k (xs ++ ys)) ≡ plus (sums_of_rows (rows_with k xs)) (sums_of_rows (rows_with k ys))
key_sums_of_both k xs ys = grind (arith, common_steps, filter-append, sums_of_both)

-- sums over one row
pub sums_of_one : (r : TallyRowModel) → sums_of_rows (r ∷ []) ≡ r.sums
sums_of_one r = same_sums _ _ (zero-add r.sums.files) (zero-add r.sums.lines) (zero-add r.sums.blank) (zero-add r.sums.bytes)

pub front_of : (P : TallyRowModel → Type 0) (xs ys : List TallyRowModel) → All P (xs ++ ys) → All P xs
front_of P xs ys all i d lt = subst P (get_or_append_left xs ys d i lt) (all i d (omega (arith, length-append xs ys)))

back_of : (P : TallyRowModel → Type 0) (xs ys : List TallyRowModel) → All P (xs ++ ys) → All P ys
back_of P xs ys all i d lt = subst P (get_or-append-add xs ys i d) (all (length xs + i) d (omega (arith, length-append xs ys)))

-- both lists, one behind the other
pub has_both : (xs ys us vs : List TallyRowModel) → HasSumsOf xs ys → HasSumsOf us vs → HasSumsOf (xs ++ us) (ys ++ vs)
has_both xs ys us vs a b =
    let P : TallyRowModel → Type 0 = λ r. 0 < r.sums.files in
    record {
      sums = λ k. key_sums_of_both k ys vs ∙ ap (λ s. plus s (sums_of_rows (rows_with k vs))) (a.sums k)
          ∙ ap (plus (sums_of_rows (rows_with k xs))) (b.sums k) ∙ sym (key_sums_of_both k xs us);
      filled = λ f. All-append P ys vs (a.filled (front_of P xs us f)) (b.filled (back_of P xs us f));
    }

-- Rows that have the same sums for each key have the same totals.
use Rattle.std.proofs.{lemmas.{Grind.common_steps, List.Sums.sum_by-cons}, Common.{◌≡◌, ℕ, ◌+◌, Bool, true, false, cond, List, [], ◌∷◌}}
use Rattle.std.proofs.Common.{◌++◌, refl, sym, ◌∙◌, ap, arith}
use Rattle.std.specs.{List.sum_by, Ordering.is_eq, declared.cmp.Ordering.{Ordering, TheVariants.{Less, Equal, Greater}}}
use Rattle.lc_walk.proofs.{Filtered.{part, sum_by-filter}, Keys.{key_cmp_total, same_to_all, equal_if}, RowSums.{same_sums, sums_of_both}}
use Rattle.lc_walk.proofs.RowSums.{sums_of_one}
use Rattle.lc_walk.specs.{Key.{Key, key_cmp, same_key}, Sums.plus, TallyRows.{TallyRowModel, sums_of_rows, rows_with, Gains, row_with}}
use Rattle.lc_walk.specs.declared.tally.sums.Sums.{Sums}

-- a key is the same as itself
same_self : (k : Key) → same_key k k ≡ true
same_self k = own (key_cmp k k) (key_cmp_total.antisymm k k) where
  own : (o : Ordering) → o ≡ Rattle.std.specs.Ordering.ordering_reverse o → is_eq o ≡ true
  own Less e = absurd (cc)
  own Equal e = refl
  own Greater e = absurd (cc)

-- sums of the same numbers are the same
sum_same : {X : Type 0} (f g : X → ℕ) → ((x : X) → f x ≡ g x) → (xs : List X) → sum_by f xs ≡ sum_by g xs
sum_same f g same xs = grind (arith, common_steps, sum_by-cons)

sum_none : {X : Type 0} (xs : List X) → sum_by (λ _. 0) xs ≡ 0
sum_none [] = refl
sum_none (x ∷ xs) = let rest = sum_none xs in omega (arith, sum_by-cons (λ _. 0) x xs)

-- what a row gives to the sum of a key
abbrev at : (TallyRowModel → ℕ) → Key → TallyRowModel → ℕ
at v k = part (λ r. same_key k r.key) v

-- a row's number, unless it has this key
abbrev but : (TallyRowModel → ℕ) → Key → TallyRowModel → ℕ
but v k r = cond (same_key k r.key) 0 (v r)

-- without one key, the sum of every other key stays
at_but_row : (v : TallyRowModel → ℕ) (j k : Key) (r : TallyRowModel) (b : Bool) → same_key j k ≡ b
    → (c : Bool) → same_key k r.key ≡ c → at (but v k) j r ≡ cond b 0 (at v j r)
at_but_row v j k r true e c f =
    let like : same_key j r.key ≡ same_key k r.key = ap is_eq (key_cmp_total.congr j k r.key (equal_if _ e)) in
    ap (λ b. cond b (cond (same_key k r.key) 0 (v r)) 0) (like ∙ f) ∙ ap (λ b. cond c (cond b 0 (v r)) 0) f ∙ none c
  where
    none : (b : Bool) → cond b (cond b 0 (v r)) 0 ≡ 0
    none true = refl
    none false = refl
at_but_row v j k r false e true f =
    let other : same_key j r.key ≡ false = sym (same_to_all k r.key j (equal_if _ f)) ∙ e in
    ap (λ b. cond b (but v k r) 0) other ∙ sym (ap (λ b. cond b (v r) 0) other)
at_but_row v j k r false e false f = ap (λ b. cond (same_key j r.key) (cond b 0 (v r)) 0) f

at_but : (v : TallyRowModel → ℕ) (j k : Key) (b : Bool) → same_key j k ≡ b → (rs : List TallyRowModel)
    → sum_by (at (but v k) j) rs ≡ cond b 0 (sum_by (at v j) rs)
at_but v j k true e rs = sum_same (at (but v k) j) (λ _. 0) (λ r. at_but_row v j k r true e _ refl) rs ∙ sum_none rs
at_but v j k false e rs = sum_same (at (but v k) j) (at v j) (λ r. at_but_row v j k r false e _ refl) rs

split : (v : TallyRowModel → ℕ) (k : Key) (rs : List TallyRowModel) → sum_by v rs ≡ sum_by (at v k) rs + sum_by (but v k) rs
split v k [] = refl
split v k (r ∷ rs) = grind (arith, common_steps, sum_by-cons, split v k rs)

own_part : (v : TallyRowModel → ℕ) (r : TallyRowModel) → at v r.key r ≡ v r
own_part v r = ap (λ b. cond b (v r) 0) (same_self r.key)

own_but : (v : TallyRowModel → ℕ) (r : TallyRowModel) → but v r.key r ≡ 0
own_but v r = ap (λ b. cond b 0 (v r)) (same_self r.key)

-- where each key has 0, so has all
no_sum : (v : TallyRowModel → ℕ) (rs : List TallyRowModel) → ((k : Key) → sum_by (at v k) rs ≡ 0) → sum_by v rs ≡ 0
no_sum v [] none = refl
no_sum v (r ∷ rs) none =
    let first = own_part v r in
    let own = none r.key in
    let rest = no_sum v rs (λ k. let e = none k in omega (arith, sum_by-cons (at v k) r rs)) in
    omega (arith, sum_by-cons v r rs, sum_by-cons (at v r.key) r rs)

either_way : (n : ℕ) (b : Bool) → cond b n n ≡ n
either_way n b = grind (arith, common_steps)

-- without its key a row gives nothing
no_part : (v : TallyRowModel → ℕ) (r : TallyRowModel) (j : Key) → at (but v r.key) j r ≡ 0
no_part v r j = ap (λ n. cond (same_key j r.key) n 0) (own_but v r) ∙ either_way 0 (same_key j r.key)

-- where each key has the same sum in both, so have all
same_sum : (v : TallyRowModel → ℕ) (xs ys : List TallyRowModel) → ((k : Key) → sum_by (at v k) xs ≡ sum_by (at v k) ys)
    → sum_by v xs ≡ sum_by v ys
same_sum v [] ys same = sym (no_sum v ys (λ k. sym (same k)))
same_sum v (x ∷ xs) ys same =
    let k : Key = x.key in
    let gone = own_but v x in
    let kept : (j : Key) → sum_by (at (but v k) j) (x ∷ xs) ≡ sum_by (at (but v k) j) ys =
    λ j. at_but v j k _ refl (x ∷ xs) ∙ ap (cond (same_key j k) 0) (same j) ∙ sym (at_but v j k _ refl ys) in
    let rest = same_sum (but v k) xs ys (λ j.
    let e = kept j in let none = no_part v x j in omega (arith, sum_by-cons (at (but v k) j) x xs)) in
    let own = same k in
    omega (arith, split v k (x ∷ xs), split v k ys, sum_by-cons (but v k) x xs)

by_key : (v : TallyRowModel → ℕ) (xs ys : List TallyRowModel) → ((k : Key) → sum_by v (rows_with k xs) ≡ sum_by v (rows_with k ys))
    → sum_by v xs ≡ sum_by v ys
by_key v xs ys same =
    same_sum v xs ys (λ k. sym (sum_by-filter (λ r. same_key k r.key) v xs) ∙ same k ∙ sum_by-filter (λ r. same_key k r.key) v ys)

-- the same sums for each key are the same totals
pub same_totals : (xs ys : List TallyRowModel) → ((k : Key) → sums_of_rows (rows_with k xs) ≡ sums_of_rows (rows_with k ys))
    → sums_of_rows xs ≡ sums_of_rows ys
same_totals xs ys same = grind (arith, common_steps, same_sums, by_key)

-- what all sums have gained where those of one key have
pub totals_gained : (old new : List TallyRowModel) (k : Key) (s : Sums) → Gains old new k s
    → sums_of_rows new ≡ plus (sums_of_rows old) s
totals_gained old new k s gained = same_totals new (old ++ row_with k s ∷ []) gained.sums ∙ sums_of_both old (row_with k s ∷ [])
    ∙ ap (plus (sums_of_rows old)) (sums_of_one (row_with k s))

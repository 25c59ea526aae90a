-- Rows of a comparison add up to the rows of both reports: each of these is in exactly one row.
use Rattle.std.proofs.Common.{arith, ◌≡◌, ℕ, ◌+◌, Bool, true, false, cond, ◌||◌, List, [], ◌∷◌, refl, sym, ◌∙◌, ap}
use Rattle.std.proofs.lemmas.{Grind.common_steps, Cmp.{eq_by_cmp_equiv, tied_itself}, Map.Lookups.CmpEqualImpliesEq}
use Rattle.std.proofs.lemmas.List.{Elements.{All-contains_itself, All-weaker, recursion_from_All}, Folds.list_any_at, Sums.sum_by-cons}
use Rattle.std.specs.{Cmp.IsTotalOrder, List.{All, AllByRecursion, Contains, sum_by, Sorted.IsStrictlySortedBy}}
use Rattle.std.specs.{Ordering.{eq_by_cmp, is_eq, ordering_reverse}, declared.cmp.Ordering.Ordering}
use Rattle.lc_changes.proofs.Merging.{Below, Rises}
use Rattle.lc_changes.specs.{Changes.changed_key, Merged.{has_key, of_key}, declared.changed_row.ChangedRow.ChangedRow}
use Rattle.lc_rows.proofs.SameKeys.{exact_row_keys, row_key_cmp_total}
use Rattle.lc_rows.specs.RowKeys.{RowKey, ShownRowModel, has_within, row_key, row_key_cmp, same_row_key, sums_of_shown, sums_over}
use Rattle.lc_walk.proofs.{Filtered.{part, sum_by-filter}, Keys.equal_if, RowSums.same_sums}
use Rattle.lc_walk.specs.declared.tally.sums.Sums.{Sums}

sum_of_both : {X : Type 0} (f g : X → ℕ) (xs : List X) → sum_by (λ x. f x + g x) xs ≡ sum_by f xs + sum_by g xs
sum_of_both f g [] = refl
sum_of_both f g (x ∷ xs) =
    omega (arith, sum_by-cons (λ y. f y + g y) x xs, sum_by-cons f x xs, sum_by-cons g x xs, sum_of_both f g xs)

sum_of_none : {X : Type 0} (xs : List X) → sum_by (λ (x : X). 0) xs ≡ 0
sum_of_none [] = refl
sum_of_none {X} (x ∷ xs) = omega (arith, sum_by-cons (λ (y : X). 0) x xs, sum_of_none xs)

module _ {L K : Type 0} (key : L → K) (cmp : K → K → Ordering) (total : IsTotalOrder cmp) (exact : CmpEqualImpliesEq cmp) where
  -- m for the lines of a key, and 0 for any other
  abbrev at_key : K → ℕ → L → ℕ
  at_key k m l = cond (eq_by_cmp cmp (key l) k) m 0

  at_later : (k : K) (m : ℕ) (ls : List L) → Below key cmp k ls → sum_by (at_key k m) ls ≡ 0
  at_later k m [] below = refl
  at_later k m (l ∷ ls) below =
      let other : at_key k m l ≡ 0 = ap (λ o. cond (is_eq o) m 0) (total.antisymm (key l) k ∙ ap ordering_reverse below.0) in
      omega (arith, other, at_later k m ls below.1, sum_by-cons (at_key k m) l ls)

  -- keys that rise have each key at most once
  pub at_once : (k : K) (m : ℕ) (ls : List L) → Rises key cmp ls → has_key key (eq_by_cmp cmp k) ls ≡ true → sum_by (at_key k m) ls ≡ m
  unfolding IsStrictlySortedBy
  at_once k m [] order there = absurd (cc)
  at_once k m (l ∷ ls) order there =
      by (eq_by_cmp cmp (key l) k) refl order.0 (at_once k m ls order.1) there
    where
      by : (b : Bool) → eq_by_cmp cmp (key l) k ≡ b → Below key cmp (key l) ls
          → (has_key key (eq_by_cmp cmp k) ls ≡ true → sum_by (at_key k m) ls ≡ m)
          → (eq_by_cmp cmp k (key l) || has_key key (eq_by_cmp cmp k) ls) ≡ true → sum_by (at_key k m) (l ∷ ls) ≡ m
      by true same below rest there =
          let one : at_key k m l ≡ m = ap (λ b. cond b m 0) same in
          let none = at_later k m ls (rw (sym (exact (key l) k (equal_if (cmp (key l) k) same))) below) in
          omega (arith, one, none, sum_by-cons (at_key k m) l ls)
      by false other below rest there =
          let none : at_key k m l ≡ 0 = ap (λ b. cond b m 0) other in
          let back : eq_by_cmp cmp k (key l) ≡ false = (eq_by_cmp_equiv total).symm k (key l) ∙ other in
          let one = rest (sym (ap (λ b. b || has_key key (eq_by_cmp cmp k) ls) back) ∙ there) in
          omega (arith, none, one, sum_by-cons (at_key k m) l ls)

-- v over the rows of a key
abbrev over_key : (ShownRowModel → ℕ) → List ShownRowModel → RowKey → ℕ
over_key v xs k = sum_by (part (λ (x : ShownRowModel). same_row_key k (row_key x)) v) xs

-- over all lines it is that over all rows
over_keys : (v : ShownRowModel → ℕ) (xs : List ShownRowModel) (ls : List ChangedRow) → Rises changed_key row_key_cmp ls
    → AllByRecursion (λ (x : ShownRowModel). has_key changed_key (same_row_key (row_key x)) ls ≡ true) xs
    → sum_by (λ (l : ChangedRow). over_key v xs (changed_key l)) ls ≡ sum_by v xs
over_keys v [] ls order there = sum_of_none ls
over_keys v (x ∷ xs) ls order there =
    alike ls ∙ sum_of_both first (λ (l : ChangedRow). over_key v xs (changed_key l)) ls ∙ omega (
      arith,
      at_once changed_key row_key_cmp row_key_cmp_total exact_row_keys (row_key x) (v x) ls order there.0,
      over_keys v xs ls order there.1,
      sum_by-cons v x xs,
    )
  where
    first : ChangedRow → ℕ
    first l = part (λ (y : ShownRowModel). same_row_key (changed_key l) (row_key y)) v x

    alike : (ls : List ChangedRow) → sum_by (λ (l : ChangedRow). over_key v (x ∷ xs) (changed_key l)) ls
        ≡ sum_by (λ (l : ChangedRow). first l + over_key v xs (changed_key l)) ls
    alike [] = refl
    alike (l ∷ ls) =
        omega (
          arith,
          alike ls,
          sum_by-cons (part (λ (y : ShownRowModel). same_row_key (changed_key l) (row_key y)) v) x xs,
          sum_by-cons (λ (m : ChangedRow). over_key v (x ∷ xs) (changed_key m)) l ls,
          sum_by-cons (λ (m : ChangedRow). first m + over_key v xs (changed_key m)) l ls,
        )

-- a row of the list has its own key
there_is : (xs : List ShownRowModel) (x : ShownRowModel) → Contains xs x → has_within (same_row_key (row_key x)) xs ≡ true
there_is xs x has = grind (arith, common_steps, list_any_at, tied_itself, row_key_cmp_total)

module _ (xs : List ShownRowModel) (sums : ChangedRow → Sums) (rows : List ChangedRow) (P : ChangedRow → Type 0) (each : All P rows)
    (is_sum : (r : ChangedRow) → P r → sums r ≡ sums_of_shown (of_key row_key row_key_cmp (changed_key r) xs))
    (have : (keys : RowKey → Bool) → has_within keys xs ≡ true → has_key changed_key keys rows ≡ true)
    (order : Rises changed_key row_key_cmp rows) where
  covered : AllByRecursion (λ (x : ShownRowModel). has_key changed_key (same_row_key (row_key x)) rows ≡ true) xs
  covered = recursion_from_All (λ (x : ShownRowModel). has_key changed_key (same_row_key (row_key x)) rows ≡ true) xs
      (All-weaker (Contains xs) (λ (x : ShownRowModel). has_key changed_key (same_row_key (row_key x)) rows ≡ true)
      (λ x has. have (same_row_key (row_key x)) (there_is xs x has)) xs (All-contains_itself xs))

  in_rows : (v : Sums → ℕ) → ((ys : List ShownRowModel) → v (sums_of_shown ys) ≡ sum_by (λ (x : ShownRowModel). v x.sums) ys)
      → (rs : List ChangedRow) → AllByRecursion P rs → sum_by (λ (r : ChangedRow). v (sums r)) rs
      ≡ sum_by (λ (r : ChangedRow). over_key (λ (x : ShownRowModel). v x.sums) xs (changed_key r)) rs
  in_rows v is [] are = refl
  in_rows v is (r ∷ rs) are =
      let first : v (sums r) ≡ over_key (λ (x : ShownRowModel). v x.sums) xs (changed_key r) =
      ap v (is_sum r are.0) ∙ is (of_key row_key row_key_cmp (changed_key r) xs)
      ∙ sum_by-filter (λ (x : ShownRowModel). same_row_key (changed_key r) (row_key x)) (λ (x : ShownRowModel). v x.sums) xs in
      omega (
        arith,
        first,
        in_rows v is rs are.1,
        sum_by-cons (λ (q : ChangedRow). v (sums q)) r rs,
        sum_by-cons (λ (q : ChangedRow). over_key (λ (x : ShownRowModel). v x.sums) xs (changed_key q)) r rs,
      )

  in_all : (v : Sums → ℕ) → ((ys : List ShownRowModel) → v (sums_of_shown ys) ≡ sum_by (λ (x : ShownRowModel). v x.sums) ys)
      → sum_by (λ (r : ChangedRow). v (sums r)) rows ≡ sum_by (λ (x : ShownRowModel). v x.sums) xs
  in_all v is = in_rows v is rows (recursion_from_All P rows each) ∙ over_keys (λ (x : ShownRowModel). v x.sums) xs rows order covered

  pub counted_once : sums_over sums rows ≡ sums_of_shown xs
  counted_once = same_sums _ _ (in_all (λ s. s.files) (λ ys. refl)) (in_all (λ s. s.lines) (λ ys. refl))
      (in_all (λ s. s.blank) (λ ys. refl)) (in_all (λ s. s.bytes) (λ ys. refl))

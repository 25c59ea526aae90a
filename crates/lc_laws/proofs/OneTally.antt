-- Files have one tally.
use Rattle.std.proofs.{lemmas.{Grind.common_steps, Cmp.tied_itself, List.Elements.recursion_from_All}, Common.{◌≡◌, ◌∙◌, ◌<◌, Bool, true}}
use Rattle.std.proofs.Common.{false, cond, List, [], ◌∷◌, refl, sym, ap, subst, inl, inr, arith}
use Rattle.std.specs.{List.AllByRecursion, Ordering.{is_eq, ordering_reverse}, declared.cmp.Ordering.TheVariants.Less}
use Rattle.lc_walk.proofs.{Elements.In, Keys.{equal_if, exact_keys, key_cmp_total}, RowSums.sums_of_one, TakingPart.in_filter}
use Rattle.lc_walk.specs.{Key.{Key, key_cmp, same_key}, Tally.{CountedFile, IsTally}, TallyRows.{TallyRowModel, rows_with, sums_of_rows}}
use Rattle.lc_walk.specs.declared.tally.sums.Sums.{Sums}
use Rattle.lc_laws.proofs.{OneOrder.{Rises, rises, risen_same}, Elements.of_each}

abbrev row_key : TallyRowModel → Key
row_key r = r.key

abbrev Below : TallyRowModel → TallyRowModel → Type 0
Below x y = key_cmp x.key y.key ≡ Less

abbrev Filled : TallyRowModel → Type 0
Filled x = 0 < x.sums.files

kept_not : (b : Bool) (x : TallyRowModel) (xs : List TallyRowModel) → b ≡ false → cond b (x ∷ xs) xs ≡ xs
kept_not b x xs e = grind (arith, common_steps)

-- no later row has the key of an earlier one
none_above : (k : Key) (x : TallyRowModel) (xs : List TallyRowModel) → k ≡ x.key → AllByRecursion (Below x) xs → rows_with k xs ≡ []
none_above k x [] same all = refl
none_above k x (y ∷ ys) same all = grind (arith, common_steps, kept_not, none_above k x ys same all.1)

-- a row is the only one of its key
own_rows : (r : TallyRowModel) (rs : List TallyRowModel) → Rises row_key key_cmp key_cmp_total rs → In r rs → rows_with r.key rs ≡ r ∷ []
own_rows r [] order i = absurd i
own_rows r (x ∷ xs) order (inl e) =
    let own : same_key r.key x.key ≡ true =
    ap (λ (y : TallyRowModel). is_eq (key_cmp r.key y.key)) e ∙ ap is_eq (tied_itself key_cmp_total r.key) in
    ap (λ b. cond b (x ∷ rows_with r.key xs) (rows_with r.key xs)) own
    ∙ ap (λ (ys : List TallyRowModel). x ∷ ys) (none_above r.key x xs (sym (ap row_key e)) order.0)
    ∙ ap (λ (y : TallyRowModel). y ∷ []) e
own_rows r (x ∷ xs) order (inr i) =
    let less : key_cmp x.key r.key ≡ Less = of_each (Below x) r xs order.0 i in
    let other : same_key r.key x.key ≡ false =
    ap is_eq (key_cmp_total.antisymm r.key x.key) ∙ ap (λ o. is_eq (ordering_reverse o)) less in
    kept_not (same_key r.key x.key) x (rows_with r.key xs) other ∙ own_rows r xs order.1 i

module _ (fs : List CountedFile) where
  -- the rows of a key of another tally: that row
  found_row : (r : TallyRowModel) (ss found : List TallyRowModel) → IsTally fs ss → 0 < r.sums.files → rows_with r.key ss ≡ found
      → sums_of_rows found ≡ r.sums → In r ss
  found_row r ss [] is filled e sums =
      let none : r.sums.files ≡ 0 = sym (ap (λ (s : Sums). s.files) sums) in absurd (omega arith)
  found_row r ss (s ∷ rest) is filled e sums =
      let there = in_filter (λ (x : TallyRowModel). same_key r.key x.key) s ss
      (subst (λ (xs : List TallyRowModel). In s xs) (sym e) (inl refl)) in
      let key : r.key ≡ s.key = exact_keys r.key s.key (equal_if (key_cmp r.key s.key) there.1) in
      let only : s ∷ rest ≡ s ∷ [] = sym e ∙ ap (λ k. rows_with k ss) key
      ∙ own_rows s ss (rises row_key key_cmp key_cmp_total ss is.order) there.0 in
      let same : s.sums ≡ r.sums = sym (sums_of_one s) ∙ sym (ap sums_of_rows only) ∙ sums in
      let row : s ≡ r = λ i. record { key = sym key i; sums = same i } in
      subst (λ (x : TallyRowModel). In x ss) row there.0

  in_other : (rs ss : List TallyRowModel) → IsTally fs rs → IsTally fs ss → (r : TallyRowModel) → In r rs → In r ss
  in_other rs ss is other r i =
      found_row r ss (rows_with r.key ss) other
      (of_each Filled r rs (recursion_from_All Filled rs is.filled) i) refl
      (other.sums r.key ∙ sym (is.sums r.key)
      ∙ ap sums_of_rows (own_rows r rs (rises row_key key_cmp key_cmp_total rs is.order) i) ∙ sums_of_one r)

  pub one_tally : (rs ss : List TallyRowModel) → IsTally fs rs → IsTally fs ss → rs ≡ ss
  one_tally rs ss is other = grind (arith, common_steps, risen_same, key_cmp_total, in_other)

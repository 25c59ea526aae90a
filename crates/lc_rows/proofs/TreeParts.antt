-- The rows of directories with files, added to all directories above them, are the rows of a tree.
use Rattle.std.proofs.Common.{◌≡◌, ℕ, ◌+◌, ◌<◌, ◌≤◌, min, suc, zero, Bool, true, false, cond, ◌&&◌, ◌||◌, List, [], ◌∷◌, ◌++◌, map}
use Rattle.std.proofs.{Common.{nat_le, Some, refl, sym, ◌∙◌, ap, subst, arith}, lemmas.Bool.Decides.nat_tests}
use Rattle.std.proofs.lemmas.List.{Folds.list_any-append, FromFn.map-range_with_len_more, Sums.{sum_by-append, sum_by-cons}}
use Rattle.std.specs.List.{flat_map, list_any, range_with_len, sum_by, Sorted.IsPermutation}
use Rattle.lc_sheet.specs.declared.table_options.Columns.{Columns}
use Rattle.lc_walk.proofs.{Filtered.{part, sum_by-filter}, RowSums.same_sums}
use Rattle.lc_walk.specs.{Sums.one_file, declared.tally.sums.Sums.Sums}
use Rattle.lc_rows.specs.{Directories.{directory_of, level_of, parent_of}, LevelParts.{HaveSumsOf, key_at, level_parts, level_to, row_at}}
use Rattle.lc_rows.specs.{RowKeys.{RowKey, ShownRowModel, has_within, row_key, row_with, rows_within}, ShownRows.{AreAddedUp, file_key}}
use Rattle.lc_rows.specs.{ShownRows.{key_in, part_of_file}, TreeRows.{levels_above, parts_above, tree_parts}}
use Rattle.lc_rows.proofs.{Levels.{first_again, level_at}, Folding.{alike_permuted, alike_sums}, TreeLaw.one_more}
use Rattle.lc_level.specs.Level.{FileLineModel}

-- ---- lists

-- functions that agree below a number
pub same_below : {X : Type 0} (f g : ℕ → X) (m : ℕ) → ((j : ℕ) → j < m → f j ≡ g j)
    → map f (range_with_len 0 m) ≡ map g (range_with_len 0 m)
same_below f g zero same = refl
same_below f g (suc m) same =
    let next : suc m ≡ m + 1 = omega arith in
    ap (λ k. map f (range_with_len 0 k)) next ∙ map-range_with_len_more f 0 m m (omega arith)
    ∙ ap (λ l. l ++ f m ∷ []) (same_below f g m (λ j lt. same j (omega arith)))
    ∙ ap (λ x. map g (range_with_len 0 m) ++ x ∷ []) (same m (omega arith))
    ∙ sym (map-range_with_len_more g 0 m m (omega arith)) ∙ ap (λ k. map g (range_with_len 0 k)) (sym next)

any_of_map : {X Y : Type 0} (p : Y → Bool) (f : X → Y) (xs : List X) → list_any p (map f xs) ≡ list_any (λ x. p (f x)) xs
any_of_map p f [] = refl
any_of_map p f (x ∷ xs) = ap (λ b. p (f x) || b) (any_of_map p f xs)

sum_of_none : {X : Type 0} (xs : List X) → sum_by (λ x. 0) xs ≡ 0
sum_of_none [] = refl
sum_of_none (x ∷ xs) = omega (arith, sum_by-cons (λ y. 0) x xs, sum_of_none xs)

sum_of_both : {X : Type 0} (f g : X → ℕ) (xs : List X) → sum_by (λ x. f x + g x) xs ≡ sum_by f xs + sum_by g xs
sum_of_both f g [] = refl
sum_of_both f g (x ∷ xs) =
    omega (arith, sum_by-cons (λ y. f y + g y) x xs, sum_by-cons f x xs, sum_by-cons g x xs, sum_of_both f g xs)

-- ---- rows of the same sums add the same to the directories above them

module _ (n : ℕ) (keys : RowKey → Bool) where
  -- whether a row of a key adds to a key of the set
  abbrev pub reaches : RowKey → Bool
  reaches k = list_any (λ level. keys (key_at level k)) (range_with_len 0 (level_to n k + 1))

  pub any_part : (rs : List ShownRowModel) → has_within keys (flat_map (level_parts n) rs) ≡ has_within reaches rs
  any_part [] = refl
  any_part (r ∷ rs) =
      let p : ShownRowModel → Bool = λ q. keys (row_key q) in
      list_any-append p (level_parts n r) (flat_map (level_parts n) rs)
      ∙ ap (λ b. b || list_any p (flat_map (level_parts n) rs))
      (any_of_map p (λ level. row_at level r) (range_with_len 0 (level_to n (row_key r) + 1)))
      ∙ ap (λ b. reaches (row_key r) || b) (any_part rs)

  -- whether it does so in the directory of so many names
  abbrev reaches_at : ℕ → RowKey → Bool
  reaches_at level k = nat_le level (level_to n k) && keys (key_at level k)

  module _ (v : Sums → ℕ) where
    abbrev pub gives : ShownRowModel → ℕ
    gives = part (λ (r : ShownRowModel). keys (row_key r)) (λ (r : ShownRowModel). v r.sums)

    abbrev gives_at : ℕ → ShownRowModel → ℕ
    gives_at level = part (λ (r : ShownRowModel). reaches_at level (row_key r)) (λ (r : ShownRowModel). v r.sums)

    -- what a row gives to the directories of fewer names
    abbrev gives_below : ℕ → ShownRowModel → ℕ
    gives_below zero r = 0
    gives_below (suc m) r = gives_below m r + gives_at m r

    below_next : (r : ShownRowModel) (m : ℕ) (b : Bool) → nat_le m (level_to n (row_key r)) ≡ b
        → sum_by gives (map (λ level. row_at level r) (range_with_len 0 (min m (level_to n (row_key r) + 1)))) ≡ gives_below m r
        → sum_by gives (map (λ level. row_at level r) (range_with_len 0 (min (suc m) (level_to n (row_key r) + 1))))
        ≡ gives_below (suc m) r
    below_next r m true e before =
        let low : m ≤ level_to n (row_key r) = grind (arith, nat_tests) in
        let now : min m (level_to n (row_key r) + 1) ≡ m = omega arith in
        let next : min (suc m) (level_to n (row_key r) + 1) ≡ suc m = omega arith in
        ap (λ k. sum_by gives (map (λ level. row_at level r) (range_with_len 0 k))) next
        ∙ one_more gives (λ level. row_at level r) m
        ∙ ap (λ k. sum_by gives (map (λ level. row_at level r) (range_with_len 0 k)) + gives (row_at m r)) (sym now)
        ∙ ap (λ k. k + gives (row_at m r)) before
        ∙ ap (λ b. gives_below m r + cond (b && keys (key_at m (row_key r))) (v r.sums) 0) (sym e)
    below_next r m false e before =
        let high : level_to n (row_key r) < m = grind (arith, nat_tests) in
        let same : min (suc m) (level_to n (row_key r) + 1) ≡ min m (level_to n (row_key r) + 1) = omega arith in
        let none : gives_at m r ≡ 0 = ap (λ b. cond (b && keys (key_at m (row_key r))) (v r.sums) 0) e in
        ap (λ k. sum_by gives (map (λ level. row_at level r) (range_with_len 0 k))) same ∙ before ∙ omega (arith, none)

    below : (r : ShownRowModel) (m : ℕ)
        → sum_by gives (map (λ level. row_at level r) (range_with_len 0 (min m (level_to n (row_key r) + 1)))) ≡ gives_below m r
    below r zero =
        let none : min 0 (level_to n (row_key r) + 1) ≡ 0 = omega arith in
        ap (λ k. sum_by gives (map (λ level. row_at level r) (range_with_len 0 k))) none
    below r (suc m) = below_next r m _ refl (below r m)

    row_sum : (r : ShownRowModel) → sum_by gives (level_parts n r) ≡ gives_below (suc n) r
    row_sum r =
        let whole : level_to n (row_key r) + 1 ≡ min (suc n) (level_to n (row_key r) + 1) = omega arith in
        ap (λ k. sum_by gives (map (λ level. row_at level r) (range_with_len 0 k))) whole ∙ below r (suc n)

    rows_sum : (rs : List ShownRowModel) → sum_by gives (flat_map (level_parts n) rs) ≡ sum_by (gives_below (suc n)) rs
    rows_sum [] = refl
    rows_sum (r ∷ rs) =
        let first = row_sum r in
        let rest = rows_sum rs in
        omega (
          arith,
          sum_by-append gives (level_parts n r) (flat_map (level_parts n) rs),
          sum_by-cons (gives_below (suc n)) r rs,
        )

    -- the sums over all levels are the sums over all rows
    exchanged : (old new : List ShownRowModel)
        → ((set : RowKey → Bool) → sum_by (λ (r : ShownRowModel). v r.sums) (rows_within set new)
        ≡ sum_by (λ (r : ShownRowModel). v r.sums) (rows_within set old))
        → (m : ℕ) → sum_by (gives_below m) new ≡ sum_by (gives_below m) old
    exchanged old new same zero = sum_of_none new ∙ sym (sum_of_none old)
    exchanged old new same (suc m) =
        let p : ShownRowModel → Bool = λ r. reaches_at m (row_key r) in
        let u : ShownRowModel → ℕ = λ r. v r.sums in
        let rest = exchanged old new same m in
        let here : sum_by (gives_at m) new ≡ sum_by (gives_at m) old =
        sym (sum_by-filter p u new) ∙ same (reaches_at m) ∙ sum_by-filter p u old in
        omega (arith, sum_of_both (gives_below m) (gives_at m) new, sum_of_both (gives_below m) (gives_at m) old)

    pub levels_sum : (old new : List ShownRowModel)
        → ((set : RowKey → Bool) → sum_by (λ (r : ShownRowModel). v r.sums) (rows_within set new)
        ≡ sum_by (λ (r : ShownRowModel). v r.sums) (rows_within set old))
        → sum_by (λ (r : ShownRowModel). v r.sums) (rows_within keys (flat_map (level_parts n) new))
        ≡ sum_by (λ (r : ShownRowModel). v r.sums) (rows_within keys (flat_map (level_parts n) old))
    levels_sum old new same =
        let p : ShownRowModel → Bool = λ r. keys (row_key r) in
        let u : ShownRowModel → ℕ = λ r. v r.sums in
        sum_by-filter p u (flat_map (level_parts n) new) ∙ rows_sum new ∙ exchanged old new same (suc n) ∙ sym (rows_sum old)
        ∙ sym (sum_by-filter p u (flat_map (level_parts n) old))

-- rows of the same sums add the same to the directories above them
pub raised_parts : (n : ℕ) (parts rows : List ShownRowModel) → HaveSumsOf parts rows
    → HaveSumsOf (flat_map (level_parts n) parts) (flat_map (level_parts n) rows)
raised_parts n parts rows same = record {
  sums = λ keys. same_sums _ _ (levels_sum n keys (λ s. s.files) parts rows (λ set. ap (λ (s : Sums). s.files) (same.sums set)))
      (levels_sum n keys (λ s. s.lines) parts rows (λ set. ap (λ (s : Sums). s.lines) (same.sums set)))
      (levels_sum n keys (λ s. s.blank) parts rows (λ set. ap (λ (s : Sums). s.blank) (same.sums set)))
      (levels_sum n keys (λ s. s.bytes) parts rows (λ set. ap (λ (s : Sums). s.bytes) (same.sums set)));
  present = λ keys. any_part n keys rows ∙ same.present (reaches n keys) ∙ sym (any_part n keys parts);
}

-- ---- the parts of files

-- a file adds to the directories above it what its directory does
file_levels : (n : ℕ) (by : Columns) (f : FileLineModel) → level_parts n (part_of_file by (Some n) f) ≡ parts_above n by f
file_levels n by f =
    let many : min n (level_of (directory_of n f.path)) + 1 ≡ levels_above n f.path + 1 = omega (arith, level_at f.path n) in
    ap (λ k. map (λ level. row_at level (part_of_file by (Some n) f)) (range_with_len 0 k)) many
    ∙ same_below (λ level. row_at level (part_of_file by (Some n) f)) (λ level. part_of_file by (Some level) f) (levels_above n f.path + 1)
    (λ j lt. ap (λ d. row_with (record { directory = Some d; key = key_in by (file_key f) }) (one_file f.count))
    (first_again (parent_of f.path) j n (omega arith)))

files_levels : (n : ℕ) (by : Columns) (fs : List FileLineModel)
    → flat_map (level_parts n) (map (part_of_file by (Some n)) fs) ≡ tree_parts n by fs
files_levels n by [] = refl
files_levels n by (f ∷ fs) =
    ap (λ l. l ++ flat_map (level_parts n) (map (part_of_file by (Some n)) fs)) (file_levels n by f)
    ∙ ap (λ l. parts_above n by f ++ l) (files_levels n by fs)

-- the rows of directories with files, added to all directories above them, are what all files add up to
pub added_tree : (n : ℕ) (by : Columns) (fs : List FileLineModel) (rows sorted all added : List ShownRowModel)
    → AreAddedUp (map (part_of_file by (Some n)) fs) rows → IsPermutation rows sorted → HaveSumsOf (flat_map (level_parts n) sorted) all
    → AreAddedUp all added → AreAddedUp (tree_parts n by fs) added
added_tree n by fs rows sorted all added first moved raised last =
    let alike = alike_permuted rows sorted moved in
    let parts = raised_parts n (map (part_of_file by (Some n)) fs) sorted (record {
      sums = λ keys. alike_sums rows sorted alike keys ∙ first.sums keys;
      present = λ keys. alike.present keys ∙ first.present keys;
    }) in
    subst (λ ps. AreAddedUp ps added) (files_levels n by fs) (record {
      sums = λ keys. last.sums keys ∙ raised.sums keys ∙ parts.sums keys;
      present = λ keys. last.present keys ∙ raised.present keys ∙ parts.present keys;
      order = last.order;
    })

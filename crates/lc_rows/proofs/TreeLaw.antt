-- The rows of a tree have the sums over the files in each directory and below it.
use Rattle.std.proofs.lemmas.{Grind.common_steps, Bool.{false_from_ne_true, Decides.nat_tests}}
use Rattle.std.proofs.lemmas.{List.{FromFn.sum_by-map-range_with_len_more, Sums.{sum_by-append, sum_by-cons}}, Map.Text.is_eq-slice_cmp}
use Rattle.std.proofs.{lemmas.Slice.Eq.bytes_eq-Decides, Common.{◌≡◌, ℕ, ◌+◌, ◌<◌, ◌≤◌, suc, zero, Bool, true, false, cond, ◌&&◌, List, []}}
use Rattle.std.proofs.Common.{◌∷◌, map, Some, refl, sym, ◌∙◌, ap, subst, arith}
use Rattle.std.specs.{Cmp.tied_then, List.{filter, range_with_len, sum_by}, Prelude.{bytes_eq, nat_eq}}
use Rattle.lc_tree.specs.ByteOrder.{bytes_cmp}
use Rattle.lc_sheet.specs.declared.table_options.Columns.{Columns}
use Rattle.lc_walk.proofs.{Filtered.{part, sum_by-filter}, RowSums.same_sums}
use Rattle.lc_walk.specs.{Sums.one_file, declared.tally.sums.Sums.Sums}
use Rattle.lc_rows.specs.{Directories.{directory_of, level_of}, Laws.{TreeLaw, sums_of_lines}, RowKeys.{FileKey, RowKey, ShownRowModel}}
use Rattle.lc_rows.specs.RowKeys.{file_key_cmp, row_key, row_key_cmp, rows_within, same_file_key, same_row_key, sums_of_shown}
use Rattle.lc_rows.specs.{ShownRows.{file_key, key_in, part_of_file}, TreeRows.{is_below, levels_above, parts_above, tree_parts}}
use Rattle.lc_rows.proofs.{Folding.{alike_permuted, alike_sums}, Levels.level_at}
use Rattle.lc_level.specs.Level.{FileLineModel}

-- sums over a range of numbers of which none counts, and of which one counts
module _ {X : Type 0} (g : X → ℕ) (f : ℕ → X) where
  pub one_more : (n : ℕ) → sum_by g (map f (range_with_len 0 (suc n))) ≡ sum_by g (map f (range_with_len 0 n)) + g (f n)
  one_more n = grind (arith, common_steps, sum_by-map-range_with_len_more)

  none_counts : (n : ℕ) → ((j : ℕ) → j < n → g (f j) ≡ 0) → sum_by g (map f (range_with_len 0 n)) ≡ 0
  none_counts zero none = refl
  none_counts (suc n) none =
      let rest = none_counts n (λ j lt. none j (omega arith)) in
      let last = none n (omega arith) in
      omega (arith, one_more n)

  one_step : (m n : ℕ) (b : Bool) → nat_eq m n ≡ b → m < suc n → ((j : ℕ) → j < suc n → (j ≡ m → ⊥) → g (f j) ≡ 0)
      → (m < n → sum_by g (map f (range_with_len 0 n)) ≡ g (f m)) → sum_by g (map f (range_with_len 0 (suc n))) ≡ g (f m)
  one_step m n b e lt none rest = grind (arith, common_steps, nat_tests, none_counts, one_more)

  one_counts : (m n : ℕ) → m < n → ((j : ℕ) → j < n → (j ≡ m → ⊥) → g (f j) ≡ 0) → sum_by g (map f (range_with_len 0 n)) ≡ g (f m)
  one_counts m zero lt none = absurd (omega arith)
  one_counts m (suc n) lt none =
      one_step m n _ refl lt none (λ less. one_counts m n less (λ j below. none j (omega arith)))

-- the test of a row's key in parts
pub key_parts : (d e : List ℕ) (k j : FileKey)
    → same_row_key (record { directory = Some d; key = k }) (record { directory = Some e; key = j }) ≡ (bytes_eq d e && same_file_key k j)
unfolding row_key_cmp
key_parts d e k j =
    sym (tied_then (bytes_cmp d e) (file_key_cmp k j)) ∙ ap (λ b. b && same_file_key k j) (is_eq-slice_cmp d e)

no_gain : (a b : Bool) (w : ℕ) → a ≡ false → cond (a && b) w 0 ≡ 0
no_gain a b w e = ap (λ t. cond (t && b) w 0) e

-- what a file adds to the rows of a directory
module _ (cut : ℕ) (by : Columns) (d : List ℕ) (k : FileKey) (known : level_of d ≤ cut) where
  abbrev wanted : RowKey
  wanted = record { directory = Some d; key = k }

  abbrev adds : (Sums → ℕ) → ShownRowModel → ℕ
  adds v = part (λ (r : ShownRowModel). same_row_key wanted (row_key r)) (λ (r : ShownRowModel). v r.sums)

  abbrev counted : FileLineModel → Bool
  counted f = is_below d f.path && same_file_key k (key_in by (file_key f))

  file_adds : (v : Sums → ℕ) (f : FileLineModel) (n : ℕ) → adds v (part_of_file by (Some n) f)
      ≡ cond (bytes_eq d (directory_of n f.path) && same_file_key k (key_in by (file_key f))) (v (one_file f.count)) 0
  file_adds v f n = ap (λ b. cond b (v (one_file f.count)) 0) (key_parts d (directory_of n f.path) k (key_in by (file_key f)))

  file_sum_at : (v : Sums → ℕ) (f : FileLineModel) (b : Bool) → is_below d f.path ≡ b
      → sum_by (adds v) (parts_above cut by f) ≡ cond (b && same_file_key k (key_in by (file_key f))) (v (one_file f.count)) 0
  file_sum_at v f true e =
      let here : d ≡ directory_of (level_of d) f.path = (bytes_eq-Decides d (directory_of (level_of d) f.path)).0 e in
      let deep = level_at f.path (level_of d) in
      let many : ℕ = levels_above cut f.path + 1 in
      let within : level_of d < many = omega (arith, ap level_of here) in
      one_counts (adds v) (λ n. part_of_file by (Some n) f) (level_of d) many within
      (λ j below other. file_adds v f j ∙ no_gain _ _ _ (false_from_ne_true _ (λ t.
      let same : d ≡ directory_of j f.path = (bytes_eq-Decides d (directory_of j f.path)).0 t in
      let deep_there = level_at f.path j in
      let level : j ≡ level_of d = omega (arith, ap level_of same) in
      other level)))
      ∙ file_adds v f (level_of d) ∙ ap (λ b. cond (b && same_file_key k (key_in by (file_key f))) (v (one_file f.count)) 0) e
  file_sum_at v f false e =
      none_counts (adds v) (λ n. part_of_file by (Some n) f) (levels_above cut f.path + 1)
      (λ j below. file_adds v f j ∙ no_gain _ _ _ (false_from_ne_true _ (λ t.
      let same : d ≡ directory_of j f.path = (bytes_eq-Decides d (directory_of j f.path)).0 t in
      let deep_there = level_at f.path j in
      let level : j ≡ level_of d = omega (arith, ap level_of same) in
      let is : bytes_eq d (directory_of (level_of d) f.path) ≡ true = subst (λ n. bytes_eq d (directory_of n f.path) ≡ true) level t in
      absurd (cc))))

  files_sum : (v : Sums → ℕ) (fs : List FileLineModel)
      → sum_by (adds v) (tree_parts cut by fs) ≡ sum_by (part counted (λ (f : FileLineModel). v (one_file f.count))) fs
  files_sum v [] = refl
  files_sum v (f ∷ fs) =
      let first = file_sum_at v f _ refl in
      let rest = files_sum v fs in
      omega (
        arith,
        sum_by-append (adds v) (parts_above cut by f) (tree_parts cut by fs),
        sum_by-cons (part counted (λ (g : FileLineModel). v (one_file g.count))) f fs,
      )

  parts_sums : (fs : List FileLineModel)
      → sums_of_shown (rows_within (same_row_key wanted) (tree_parts cut by fs)) ≡ sums_of_lines (filter counted fs)
  parts_sums fs =
      let p : ShownRowModel → Bool = λ r. same_row_key wanted (row_key r) in
      let one : (v : Sums → ℕ) → sum_by (λ (r : ShownRowModel). v r.sums) (filter p (tree_parts cut by fs))
      ≡ sum_by (λ (f : FileLineModel). v (one_file f.count)) (filter counted fs) =
      λ v. sum_by-filter p (λ (r : ShownRowModel). v r.sums) (tree_parts cut by fs) ∙ files_sum v fs
      ∙ sym (sum_by-filter counted (λ (f : FileLineModel). v (one_file f.count)) fs) in
      same_sums _ _ (one (λ s. s.files)) (one (λ s. s.lines)) (one (λ s. s.blank)) (one (λ s. s.bytes))

-- the rows of a tree have the sums over what is below their directories
pub tree_law : TreeLaw
tree_law n by fs rows d k known h =
    alike_sums h.0 rows (alike_permuted h.0 rows h.2) (same_row_key (record { directory = Some d; key = k }))
    ∙ h.1.sums (same_row_key (record { directory = Some d; key = k })) ∙ parts_sums n by d k known fs

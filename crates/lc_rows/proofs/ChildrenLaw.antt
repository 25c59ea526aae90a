-- The sums of a directory are those of its own files and of the directories in it.
use Rattle.std.proofs.Common.{◌≡◌, ℕ, ◌+◌, ◌<◌, ◌≤◌, suc, zero, Bool, cond, ◌&&◌, List, [], ◌∷◌, map, Some, refl, sym, ◌∙◌, ap, subst}
use Rattle.std.proofs.{Common.arith, lemmas.List.Sums.{sum_by-append, sum_by-cons}}
use Rattle.std.specs.{List.{filter, range_with_len, sum_by}, Prelude.bytes_eq}
use Rattle.lc_sheet.specs.declared.table_options.Columns.{Columns}
use Rattle.lc_walk.proofs.{Filtered.{part, sum_by-filter}, RowSums.same_sums}
use Rattle.lc_walk.specs.{Sums.{one_file, plus}, declared.tally.sums.Sums.Sums}
use Rattle.lc_rows.specs.{Directories.{above, directory_of, level_of}, Laws.{ChildrenLaw, sums_of_lines}, RowKeys.{RowKey, ShownRowModel}}
use Rattle.lc_rows.specs.RowKeys.{FileKey, row_key, rows_within, same_file_key, same_row_key, sums_of_shown}
use Rattle.lc_rows.specs.ShownRows.{file_key, key_in, part_of_file}
use Rattle.lc_rows.specs.TreeRows.{is_child, is_in, levels_above, parts_above, tree_parts}
use Rattle.lc_rows.proofs.{Folding.{alike_permuted, alike_sums}, Levels.{above_at, capped, level_at}, TreeLaw.{key_parts, one_more}}
use Rattle.lc_level.specs.Level.{FileLineModel}

-- where each number of one sum is the one before it of another, only the last is missing
module _ {X : Type 0} (g h : X → ℕ) (f : ℕ → X) (none : h (f 0) ≡ 0) where
  shifted : (n : ℕ) → ((j : ℕ) → suc j < suc n → h (f (suc j)) ≡ g (f j))
      → sum_by g (map f (range_with_len 0 n)) ≡ sum_by h (map f (range_with_len 0 (suc n)))
  shifted zero next = sym (one_more h f 0 ∙ ap (λ k. 0 + k) none)
  shifted (suc n) next =
      let before = shifted n (λ j lt. next j (omega arith)) in
      let here = next n (omega arith) in
      omega (arith, one_more g f n, one_more h f (suc n))

  last_missing : (n : ℕ) → ((j : ℕ) → suc j < suc n → h (f (suc j)) ≡ g (f j))
      → sum_by g (map f (range_with_len 0 (suc n))) ≡ g (f n) + sum_by h (map f (range_with_len 0 (suc n)))
  last_missing n next = let before = shifted n next in omega (arith, one_more g f n)

child_some : (d e : List ℕ) → 0 < level_of e → is_child d (Some e) ≡ bytes_eq d (above e)
child_some d [] deep = absurd (omega arith)
child_some d (b ∷ bs) deep = refl

module _ (cut : ℕ) (by : Columns) (d : List ℕ) (k : FileKey) where
  abbrev wanted : RowKey
  wanted = record { directory = Some d; key = k }

  abbrev adds : (Sums → ℕ) → ShownRowModel → ℕ
  adds v = part (λ (r : ShownRowModel). same_row_key wanted (row_key r)) (λ (r : ShownRowModel). v r.sums)

  abbrev of_child : RowKey → Bool
  of_child key = is_child d key.directory && same_file_key k key.key

  abbrev child_adds : (Sums → ℕ) → ShownRowModel → ℕ
  child_adds v = part (λ (r : ShownRowModel). of_child (row_key r)) (λ (r : ShownRowModel). v r.sums)

  abbrev owned : FileLineModel → Bool
  owned f = is_in cut d f.path && same_file_key k (key_in by (file_key f))

  abbrev gain : (Sums → ℕ) → FileLineModel → Bool → ℕ
  gain v f b = cond (b && same_file_key k (key_in by (file_key f))) (v (one_file f.count)) 0

  file_adds : (v : Sums → ℕ) (f : FileLineModel) (n : ℕ)
      → adds v (part_of_file by (Some n) f) ≡ gain v f (bytes_eq d (directory_of n f.path))
  file_adds v f n = ap (λ b. cond b (v (one_file f.count)) 0) (key_parts d (directory_of n f.path) k (key_in by (file_key f)))

  child_adds_next : (v : Sums → ℕ) (f : FileLineModel) (j : ℕ) → suc j ≤ levels_above cut f.path
      → child_adds v (part_of_file by (Some (suc j)) f) ≡ adds v (part_of_file by (Some j) f)
  child_adds_next v f j within =
      let deep = level_at f.path (suc j) in
      ap (gain v f) (child_some d (directory_of (suc j) f.path) (omega arith) ∙ ap (bytes_eq d) (above_at f.path j (omega arith)))
      ∙ sym (file_adds v f j)

  file_sum : (v : Sums → ℕ) (f : FileLineModel)
      → sum_by (adds v) (parts_above cut by f) ≡ gain v f (is_in cut d f.path) + sum_by (child_adds v) (parts_above cut by f)
  file_sum v f =
      let last : ℕ = levels_above cut f.path in
      let many : suc last ≡ last + 1 = omega arith in
      let own : adds v (part_of_file by (Some last) f) ≡ gain v f (is_in cut d f.path) =
      file_adds v f last ∙ ap (λ p. gain v f (bytes_eq d p)) (sym (capped f.path cut)) in
      subst (λ n. sum_by (adds v) (map (λ i. part_of_file by (Some i) f) (range_with_len 0 n))
      ≡ gain v f (is_in cut d f.path) + sum_by (child_adds v) (map (λ i. part_of_file by (Some i) f) (range_with_len 0 n))) many
      (last_missing (adds v) (child_adds v) (λ i. part_of_file by (Some i) f) refl last
      (λ j lt. child_adds_next v f j (omega arith))
      ∙ ap (λ n. n + sum_by (child_adds v) (map (λ i. part_of_file by (Some i) f) (range_with_len 0 (suc last)))) own)

  files_sum : (v : Sums → ℕ) (fs : List FileLineModel)
      → sum_by (adds v) (tree_parts cut by fs)
      ≡ sum_by (part owned (λ (f : FileLineModel). v (one_file f.count))) fs + sum_by (child_adds v) (tree_parts cut by fs)
  files_sum v [] = refl
  files_sum v (f ∷ fs) =
      let first = file_sum v f in
      let rest = files_sum v fs in
      omega (
        arith,
        sum_by-append (adds v) (parts_above cut by f) (tree_parts cut by fs),
        sum_by-append (child_adds v) (parts_above cut by f) (tree_parts cut by fs),
        sum_by-cons (part owned (λ (g : FileLineModel). v (one_file g.count))) f fs,
      )

  parts_sums : (fs : List FileLineModel)
      → sums_of_shown (rows_within (same_row_key wanted) (tree_parts cut by fs))
      ≡ plus (sums_of_lines (filter owned fs)) (sums_of_shown (rows_within of_child (tree_parts cut by fs)))
  parts_sums fs =
      let p : ShownRowModel → Bool = λ r. same_row_key wanted (row_key r) in
      let q : ShownRowModel → Bool = λ r. of_child (row_key r) in
      let one : (v : Sums → ℕ) → sum_by (λ (r : ShownRowModel). v r.sums) (filter p (tree_parts cut by fs))
      ≡ sum_by (λ (f : FileLineModel). v (one_file f.count)) (filter owned fs)
      + sum_by (λ (r : ShownRowModel). v r.sums) (filter q (tree_parts cut by fs)) =
      λ v. omega (
        arith,
        sum_by-filter p (λ (r : ShownRowModel). v r.sums) (tree_parts cut by fs),
        files_sum v fs,
        sum_by-filter owned (λ (f : FileLineModel). v (one_file f.count)) fs,
        sum_by-filter q (λ (r : ShownRowModel). v r.sums) (tree_parts cut by fs),
      ) in
      same_sums _ _ (one (λ s. s.files)) (one (λ s. s.lines)) (one (λ s. s.blank)) (one (λ s. s.bytes))

-- the sums of a row are those of its own files and of the rows below it
pub children_law : ChildrenLaw
children_law n by fs rows d k h =
    let moved = alike_permuted h.0 rows h.2 in
    let keys : RowKey → Bool = same_row_key (record { directory = Some d; key = k }) in
    let children : RowKey → Bool = λ key. is_child d key.directory && same_file_key k key.key in
    alike_sums h.0 rows moved keys ∙ h.1.sums keys ∙ parts_sums n by d k fs
    ∙ ap (plus (sums_of_lines (filter (λ f. is_in n d f.path && same_file_key k (key_in by (file_key f))) fs)))
    (sym (alike_sums h.0 rows moved children ∙ h.1.sums children))

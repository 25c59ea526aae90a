-- What is true of the rows of directories.
use Rattle.std.proofs.lemmas.{Grind.common_steps, Cmp.tied_itself}
use Rattle.std.proofs.{lemmas.List.{get_or-map, length-map, Folds.list_any_at, Sorted.sum_by-IsPermutation, Sums.length-filter}, Common.◌≡◌}
use Rattle.std.proofs.Common.{ℕ, Bool, true, false, cond, ◌&&◌, ◌||◌, not, List, [], ◌∷◌, map, length, get_or, suc, refl, sym, ◌∙◌, ap}
use Rattle.std.proofs.Common.{arith, subst}
use Rattle.std.specs.{Bool.MatchBool, List.{AllByRecursion, filter, list_any, Sorted.{IsPermutation, IsStrictlySortedBy}}, Ordering.is_eq}
use Rattle.std.specs.declared.cmp.Ordering.TheVariants.{Less, Equal}
use Rattle.lc_sheet.specs.{Keys.are_of_files, declared.table_options.Columns.Columns}
use Rattle.lc_walk.proofs.{Filtered.{part, sum_by-filter}, Keys.equal_if, ReportTotals.sum_by-map, RowSums.same_sums}
use Rattle.lc_walk.specs.{TallyRows.TallyRowModel, declared.tally.sums.Sums.Sums}
use Rattle.lc_rows.specs.{Laws.{DirectoriesLaw, OneRowLaw, file_row_key, sums_of_lines}, RowKeys.{RowKey, ShownRowModel, AreInRowOrder}}
use Rattle.lc_rows.specs.{RowKeys.{has_within, row_key, row_key_cmp, rows_within, same_row_key, sums_of_shown}, ShownRows.AreAddedUp}
use Rattle.lc_rows.specs.ShownRows.{AreSummed, part_of_file, parts_in}
use Rattle.lc_rows.proofs.{Folding.{alike_permuted, alike_sums}, RowLaws.moved, SameKeys.row_key_cmp_total}
use Rattle.lc_level.specs.Level.{FileLineModel}

-- the sums over the parts of a set of keys are those over their files
file_sums : (by : Columns) (keys : RowKey → Bool) (fs : List FileLineModel)
    → sums_of_shown (rows_within keys (map (part_of_file by by.dir) fs)) ≡ sums_of_lines (filter (λ f. keys (file_row_key by f)) fs)
file_sums by keys fs = grind (arith, common_steps, sum_by-filter, sum_by-map, part, same_sums)

-- rows by directories or attributes are added up from files
of_files : (by : Columns) (rs : List TallyRowModel) (fs : List FileLineModel) (summed : List ShownRowModel) → are_of_files by ≡ true
    → AreSummed by rs fs summed → AreAddedUp (map (part_of_file by by.dir) fs) summed
of_files by rs fs summed e are =
    subst (λ b. MatchBool (not b && by.ext && by.text && by.eol) (summed ≡ parts_in b by rs fs) (AreAddedUp (parts_in b by rs fs) summed))
    e are

-- the rows of a directory and a key have the sums over its files
pub directories_law : DirectoriesLaw
directories_law by sort rs fs shown k e h =
    let added = of_files by rs fs h.0 e h.1 in
    alike_sums h.0 shown (alike_permuted h.0 shown (moved sort h.0 shown h.2)) (same_row_key k) ∙ added.sums (same_row_key k)
    ∙ file_sums by (same_row_key k) fs

-- no row after the one of a key has this key
none_after : (k x : RowKey) (rows : List ShownRowModel) → row_key_cmp k x ≡ Equal
    → AllByRecursion (λ y. row_key_cmp x y ≡ Less) (map row_key rows) → length (rows_within (same_row_key k) rows) ≡ 0
none_after k x [] same above = refl
none_after k x (r ∷ rs) same above =
    let other : same_row_key k (row_key r) ≡ false = ap is_eq (row_key_cmp_total.congr k x (row_key r) same ∙ above.0) in
    ap (λ b. length (cond b (r ∷ rows_within (same_row_key k) rs) (rows_within (same_row_key k) rs))) other
    ∙ none_after k x rs same above.1

-- where keys rise, and some row has the key, one has
module _ (k : RowKey) where
  single_at : (r : ShownRowModel) (rs : List ShownRowModel) (b : Bool) → same_row_key k (row_key r) ≡ b
      → (list_any (λ (x : ShownRowModel). same_row_key k (row_key x)) rs ≡ true → length (rows_within (same_row_key k) rs) ≡ 1)
      → AllByRecursion (λ y. row_key_cmp (row_key r) y ≡ Less) (map row_key rs)
      → (b || list_any (λ (x : ShownRowModel). same_row_key k (row_key x)) rs) ≡ true
      → length (cond b (r ∷ rows_within (same_row_key k) rs) (rows_within (same_row_key k) rs)) ≡ 1
  single_at r rs true same later above some = ap suc (none_after k (row_key r) rs (equal_if _ same) above)
  single_at r rs false other later above some = later some

  single : (rows : List ShownRowModel) → AreInRowOrder rows → has_within (same_row_key k) rows ≡ true
      → length (rows_within (same_row_key k) rows) ≡ 1
  unfolding IsStrictlySortedBy
  single [] order some = absurd (cc)
  single (r ∷ rs) order some = single_at r rs _ refl (single rs order.1) order.0 some

-- as many rows pass a test in another order
moved_many : (p : ShownRowModel → Bool) (xs ys : List ShownRowModel) → IsPermutation xs ys → length (filter p ys) ≡ length (filter p xs)
moved_many p xs ys h = length-filter p ys ∙ sum_by-IsPermutation (part p (λ _. 1)) xs ys h ∙ sym (length-filter p xs)

-- each file is in exactly one row
pub one_row_law : OneRowLaw
one_row_law by sort rs fs shown e h = λ i d within.
    let added = of_files by rs fs h.0 e h.1 in
    let k : RowKey = file_row_key by (get_or fs i d) in
    let made : ShownRowModel = part_of_file by by.dir d in
    let read : get_or (map (part_of_file by by.dir) fs) i made ≡ part_of_file by by.dir (get_or fs i d)
    = get_or-map (part_of_file by by.dir) fs i d made within in
    let own : same_row_key k (row_key (get_or (map (part_of_file by by.dir) fs) i made)) ≡ true =
    ap (λ (r : ShownRowModel). same_row_key k (row_key r)) read ∙ ap is_eq (tied_itself row_key_cmp_total k) in
    let some : has_within (same_row_key k) (map (part_of_file by by.dir) fs) ≡ true =
    list_any_at (λ (r : ShownRowModel). same_row_key k (row_key r)) (map (part_of_file by by.dir) fs) i made
    (omega (arith, length-map fs (part_of_file by by.dir))) own in
    moved_many (λ (r : ShownRowModel). same_row_key k (row_key r)) h.0 shown (moved sort h.0 shown h.2)
    ∙ single k h.0 added.order (added.present (same_row_key k) ∙ some)

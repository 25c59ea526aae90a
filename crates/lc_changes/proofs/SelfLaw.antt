-- A report does not differ from itself.
use Rattle.std.proofs.{lemmas.{Grind.common_steps, Cmp.tied_itself}}
use Rattle.std.proofs.{lemmas.List.{Elements.{recursion_from_All, All-weaker}, nil_from_length, Sorted.length_permutation}}
use Rattle.std.proofs.{lemmas.Map.Lookups.exact_bytes, Common.{◌≡◌, ℕ, ◌==◌, Bool, true, false, cond, if◌then◌else◌, not, ◌&&◌, ◌||◌, List}}
use Rattle.std.proofs.{Common.{[], ◌∷◌, map, length, Option, Some, None, refl, sym, ◌∙◌, ap, subst, arith, IsPermutation}}
use Rattle.std.proofs.Math.Seq.{take-nil}
use Rattle.std.specs.{Cmp.nat_eq_equiv, List.{AllByRecursion, IsDistinct, filter, list_any}, Ordering.is_eq, declared.cmp.Ordering.Ordering}
use Rattle.lc_changes.specs.{ChangeColumns.{changed_columns, changed_sums_columns, file_change_columns}, ChangeSheets.comparison_of}
use Rattle.lc_changes.specs.{ChangeSheets.{form_by, other_sums, total_sums}, ChangeValues.{changed_sums_value, changed_value}}
use Rattle.lc_changes.specs.{ChangeValues.file_change_value, declared.changed_row.ChangedRow.ChangedRow}
use Rattle.lc_changes.specs.{declared.kinds.sums.ChangedSums.ChangedSums, Changes.{AreCompared, AreSortedBy, IsRowOf, change_cmp}}
use Rattle.lc_changes.specs.{Changes.{changed_key, differs, kept_rows}, FileChanges.{FileChangeModel, AreFilesChanged, file_change_cmp}}
use Rattle.lc_changes.specs.{FileChanges.{AreFilesCompared, IsFileOf, IsOneOf, are_same_counts, changed_path, file_path, is_changed}}
use Rattle.lc_changes.specs.{FileChanges.{same_path, sides_differ}, Laws.{SelfLaw, has_no_line}, Merged.{IsLineAt, of_key}}
use Rattle.lc_level.specs.Level.{FileLineModel}
use Rattle.lc_rows.proofs.SameKeys.{row_key_cmp_total}
use Rattle.lc_rows.specs.{RowKeys.{ShownRowModel, row_key, row_key_cmp}, Sheets.{section_of, with_attributes}, ShownRows.parts_of}
use Rattle.lc_rows.specs.{Views.{first_of, rest_of}}
use Rattle.lc_sheet.specs.{Sheets.lines_of, Values.ValueModel, declared.column.{Column.Column, Number.Number}}
use Rattle.lc_tree.specs.{ByteOrder.{AreApart, bytes_cmp}}
use Rattle.lc_walk.proofs.Keys.{equal_if}

-- ---- rows

same_number : (n : ℕ) → (n == n) ≡ true
same_number n = nat_eq_equiv.refl n

four : (a b c d : Bool) → a ≡ true → b ≡ true → c ≡ true → d ≡ true → not (a && b && c && d) ≡ false
four a b c d e f g h = λ i. not (e i && f i && g i && h i)

no_change : (r : ChangedRow) → r.old_sums ≡ r.new_row.sums → differs r ≡ false
no_change r same = grind (arith, common_steps, four, same_number)

-- where no element passes, none is kept
none_kept : {X : Type 0} (test : X → Bool) (xs : List X) → AllByRecursion (λ x. test x ≡ false) xs → filter test xs ≡ []
none_kept test [] fail = refl
none_kept test (x ∷ xs) fail = ap (λ b. cond b (x ∷ filter test xs) (filter test xs)) fail.0 ∙ none_kept test xs fail.1

none_passes : {X : Type 0} (test : X → Bool) (xs : List X) → AllByRecursion (λ x. test x ≡ false) xs → list_any test xs ≡ false
none_passes test [] fail = refl
none_passes test (x ∷ xs) fail = ap (λ b. b || list_any test xs) fail.0 ∙ none_passes test xs fail.1

rows_same : (parts : List ShownRowModel) (rows : List ChangedRow) → AreCompared parts parts rows
    → AllByRecursion (λ r. differs r ≡ false) rows
rows_same parts rows compared =
    recursion_from_All (λ r. differs r ≡ false) rows
    (All-weaker (IsLineAt row_key row_key_cmp changed_key IsRowOf parts parts) (λ r. differs r ≡ false)
    (λ r is. no_change r (is.0 ∙ sym is.1)) rows compared.each)

none_moved : {X : Type 0} (xs ys : List X) → xs ≡ [] → IsPermutation xs ys → ys ≡ []
none_moved xs ys none moved = nil_from_length ys (length_permutation xs ys moved ∙ ap length none)

none_sorted : {L : Type 0} (cmp : Number → L → L → Ordering) (sort : Option Number) (lines sorted : List L) → lines ≡ []
    → AreSortedBy cmp sort lines sorted → sorted ≡ []
none_sorted cmp None lines sorted none is = is ∙ none
none_sorted cmp (Some n) lines sorted none is = none_moved lines sorted none is.0

none_first : {X : Type 0} (top : Option ℕ) → first_of {X = X} top [] ≡ []
none_first None = refl
none_first (Some n) = take-nil n

none_left : {X : Type 0} (top : Option ℕ) → rest_of {X = X} top [] ≡ []
none_left top = grind (arith, common_steps)

-- ---- files

-- no other file has the path of the first
none_other : (f : FileLineModel) (fs : List FileLineModel) → AllByRecursion (λ y. is_eq (bytes_cmp f.path y) ≡ false) (map file_path fs)
    → of_key file_path bytes_cmp f.path fs ≡ []
none_other f [] others = refl
none_other f (g ∷ gs) others =
    ap (λ b. cond b (g ∷ of_key file_path bytes_cmp f.path gs) (of_key file_path bytes_cmp f.path gs)) others.0 ∙ none_other f gs others.1

of_none : (a : Option FileLineModel) → IsOneOf [] a → a ≡ None
of_none None is = refl
of_none (Some f) is = absurd (omega (arith, is.1))

of_one : (f : FileLineModel) (a : Option FileLineModel) → IsOneOf (f ∷ []) a → a ≡ Some f
of_one f None is = absurd (cc)
of_one f (Some g) is = grind (arith, common_steps)

-- a report has one file at a path, or none
pub one_file : (fs : List FileLineModel) (path : List ℕ) (a b : Option FileLineModel) → AreApart (map file_path fs)
    → IsOneOf (of_key file_path bytes_cmp path fs) a → IsOneOf (of_key file_path bytes_cmp path fs) b → a ≡ b
unfolding IsDistinct
one_file [] path a b apart is_a is_b = of_none a is_a ∙ sym (of_none b is_b)
one_file (f ∷ fs) path a b apart is_a is_b =
    at (same_path path f.path) refl is_a is_b (one_file fs path a b apart.1)
  where
    rest : List FileLineModel
    rest = of_key file_path bytes_cmp path fs

    at : (t : Bool) → same_path path f.path ≡ t → IsOneOf (cond t (f ∷ rest) rest) a → IsOneOf (cond t (f ∷ rest) rest) b
        → (IsOneOf rest a → IsOneOf rest b → a ≡ b) → a ≡ b
    at true same is_a is_b other =
        let none : rest ≡ [] = subst (λ p. of_key file_path bytes_cmp p fs ≡ [])
        (sym (exact_bytes path f.path (equal_if (bytes_cmp path f.path) same))) (none_other f fs apart.0) in
        of_one f a (subst (λ l. IsOneOf (f ∷ l) a) none is_a) ∙ sym (of_one f b (subst (λ l. IsOneOf (f ∷ l) b) none is_b))
    at false differ is_a is_b other = other is_a is_b

is_itself : (n : ℕ) (f : FileLineModel) → not (are_same_counts n f f) ≡ false
is_itself n f = grind (arith, common_steps, four, tied_itself, row_key_cmp_total, same_number)

sides_same : (n : ℕ) (old new : Option FileLineModel) → old ≡ new → sides_differ n old new ≡ false
sides_same n None None same = refl
sides_same n None (Some b) same = absurd (cc)
sides_same n (Some a) None same = absurd (cc)
sides_same n (Some a) (Some b) same = grind (arith, common_steps, is_itself)

files_same : (n : ℕ) (fs : List FileLineModel) (compared : List FileChangeModel) → AreApart (map file_path fs)
    → AreFilesCompared fs fs compared → filter (is_changed n) compared ≡ []
files_same n fs compared apart are =
    none_kept (is_changed n) compared (recursion_from_All (λ c. is_changed n c ≡ false) compared
    (All-weaker (IsLineAt file_path bytes_cmp changed_path IsFileOf fs fs) (λ c. is_changed n c ≡ false)
    (λ c is. sides_same n c.old_file c.new_file (one_file fs (changed_path c) c.old_file c.new_file apart is.0 is.1))
    compared are.each))

no_files : (listed : Bool) (n : ℕ) (fs : List FileLineModel) (files : List FileChangeModel) → AreApart (map file_path fs)
    → AreFilesChanged listed n fs fs files → files ≡ []
no_files true n fs files apart (compared, are, is) = is ∙ files_same n fs compared apart are
no_files false n fs files apart is = is

-- ---- what is shown

no_lines : (listed : Bool) (attributes : List (List ℕ)) (top : Option ℕ) (value : FileChangeModel → Column → ValueModel)
    (columns : List Column)
    → has_no_line (if listed then Some (with_attributes attributes (section_of value columns (first_of top []))) else None)
no_lines true attributes top value columns = ap (λ l. lines_of value columns l) (none_first top)
no_lines false attributes top value columns = tt

pub self_law : SelfLaw
self_law options attributes r c apart are =
    let same : AllByRecursion (λ r. differs r ≡ false) are.rows =
    rows_same (parts_of options.by r.rows.items r.files.items) are.rows are.are_rows in
    let no_file : are.files ≡ [] = no_files options.files options.by.attributes r.files.items are.files apart are.are_files in
    let none_listed : are.listed ≡ [] = none_sorted file_change_cmp options.sort are.files are.listed no_file are.are_listed in
    let none_shown : options.all ≡ false → are.shown ≡ [] =
    λ some. none_sorted change_cmp options.sort (kept_rows options.all are.rows) are.shown
    (ap (λ all. kept_rows all are.rows) some ∙ none_kept differs are.rows same) are.are_shown in
    let total : List ChangedSums = total_sums r.totals r.totals in
    record {
      differ = are.is_differ ∙ (λ i. none_passes differs are.rows same i || list_any (is_changed options.by.attributes) (no_file i));
      rows = λ some. ap (λ s. s.rows.lines) are.is_sheet
          ∙ ap (λ rows. (comparison_of options attributes total rows are.listed).rows.lines) (none_shown some)
          ∙ ap (λ rows. lines_of (changed_value (form_by options.format options.by))
          (changed_columns options.format options.sort options.by) rows)
          (none_first options.top);
      others = λ some. ap (λ s. s.others.lines) are.is_sheet
          ∙ ap (λ rows. (comparison_of options attributes total rows are.listed).others.lines) (none_shown some)
          ∙ ap (λ rows. lines_of (changed_sums_value (form_by options.format options.by))
          (changed_sums_columns options.format (changed_columns options.format options.sort options.by)) (other_sums rows))
          (none_left options.top);
      files = subst has_no_line (sym (ap (λ s. s.files) are.is_sheet
          ∙ ap (λ files. (comparison_of options attributes total are.shown files).files) none_listed))
          (no_lines options.files attributes options.top (file_change_value (form_by options.format options.by))
          (file_change_columns options.format options.by));
    }

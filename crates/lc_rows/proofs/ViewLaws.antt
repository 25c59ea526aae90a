-- What is true of the rows and files that a table shows where it is cut.
use Rattle.std.proofs.lemmas.Grind.{common_steps}
use Rattle.std.proofs.lemmas.List.{get_or-drop, get_or-take, get_or_default, length-drop, length-take-le, Elements.All-nil}
use Rattle.std.proofs.lemmas.List.{Sums.sum_by-take-drop, Sorted.{IsPermutation-refl, sorted_far}}
use Rattle.std.proofs.{lemmas.Map.Keys.ge_from_not_lt, Common.{◌≡◌, ◌∙◌, ℕ, ◌+◌, ◌≤◌, ◌<◌, false, List, [], ◌∷◌, length, get_or, take}}
use Rattle.std.proofs.Common.{drop, Option, Some, None, refl, sym, ap, arith, subst}
use Rattle.std.specs.{Prelude.unwrap_or, List.Sorted.IsPermutation, Ordering.{is_lt, ordering_then}, declared.cmp.Ordering.Ordering}
use Rattle.std.specs.declared.cmp.Ordering.TheVariants.{Less, Equal, Greater}
use Rattle.lc_sheet.specs.declared.column.Number.{Number}
use Rattle.lc_walk.proofs.RowSums.{same_sums}
use Rattle.lc_walk.specs.Sums.{no_files, plus}
use Rattle.lc_rows.specs.{RowKeys.{ShownRowModel, sums_of_shown}, Laws.{CutTotalsLaw, FirstFilesLaw, SortedFilesLaw}}
use Rattle.lc_rows.specs.{ShownFiles.{AreFilesSorted, file_cmp, file_number}, Views.{first_of, rest_of, sums_of_some}}
use Rattle.lc_rows.proofs.{RowLaws.totals_law, Sorted.files_rank}
use Rattle.lc_level.specs.Level.{FileLineModel}

-- the sums over some rows, or over none
some_sums : (rs : List ShownRowModel) → unwrap_or (sums_of_some rs) no_files ≡ sums_of_shown rs
some_sums [] = refl
some_sums (r ∷ rs) = refl

-- the first rows and those after them
both_sums : (top : Option ℕ) (rs : List ShownRowModel)
    → plus (sums_of_shown (first_of top rs)) (sums_of_shown (rest_of top rs)) ≡ sums_of_shown rs
both_sums top rs = grind (arith, common_steps, same_sums, sum_by-take-drop)

-- the rows that are shown and the sums over the others add up
pub cut_totals_law : CutTotalsLaw
cut_totals_law by sort top rs fs rows files shown =
    ap (plus (sums_of_shown (first_of top rows))) (some_sums (rest_of top rows)) ∙ both_sums top rows ∙ totals_law by sort rs fs rows shown

-- sorted or not, the files are the same
pub sorted_files_law : SortedFilesLaw
sorted_files_law None fs sorted same = subst (λ (l : List FileLineModel). IsPermutation fs l) (sym same) (IsPermutation-refl fs)
sorted_files_law (Some n) fs sorted h = h.0

-- what comes first where one order and then another decide
pub first_decides : (o p : Ordering) → is_lt (ordering_then o p) ≡ false → is_lt o ≡ false
first_decides Less p e = e
first_decides Equal p e = refl
first_decides Greater p e = refl

-- of two sorted files the later one has no larger number
falls : (n : Number) (fs sorted : List FileLineModel) → AreFilesSorted (Some n) fs sorted → (i j : ℕ) (d : FileLineModel) → i ≤ j
    → j < length sorted → file_number n (get_or sorted j d) ≤ file_number n (get_or sorted i d)
falls n fs sorted h i j d le within =
    let not_before =
    sorted_far (λ (a : FileLineModel) (b : FileLineModel). is_lt (file_cmp n a b)) (files_rank n) sorted h.1 i j d le within in
    ge_from_not_lt (file_number n (get_or sorted i d)) (file_number n (get_or sorted j d)) (first_decides _ _ not_before)

-- no file that is cut off has a larger number than one that is listed
pub first_files_law : FirstFilesLaw
first_files_law n None fs sorted h = All-nil _
first_files_law n (Some k) fs sorted h = λ j d low. λ i e first.
    let dropped = length-drop k sorted in
    let after : k + j < length sorted = omega arith in
    let taken = length-take-le k sorted (omega arith) in
    let before : i < k = omega arith in
    let cut : get_or (drop k sorted) j d ≡ get_or sorted (k + j) d = get_or-drop k sorted j d in
    let kept : get_or (take k sorted) i e ≡ get_or sorted i d =
    get_or-take k sorted i e before ∙ get_or_default sorted i e d (omega arith) in
    rw (cut, kept) (falls n fs sorted h i (k + j) d (omega arith) after)

-- The parts of a report that meet conditions: their order, and opposite ones.
use Rattle.std.proofs.lemmas.Grind.{common_steps}
use Rattle.std.proofs.Common.{◌≡◌, ◌∙◌, ◌+◌, ◌&&◌, ◌||◌, ℕ, Bool, true, false, not, List, [], ◌∷◌, map, filter, refl, sym, ap, ap₂}
use Rattle.std.proofs.{Common.{if◌then◌else◌, arith}, Math.Path.fun_ext, lemmas.List.length-map}
use Rattle.std.proofs.lemmas.List.{Filters.{length-filter_both, sum_by-filter_both}, Sorted.{length_permutation, list_any-IsPermutation}}
use Rattle.std.specs.{Bool.MatchBool, List.{list_all, list_any, sum_by, Sorted.IsPermutation}}
use Rattle.lc_sheet.specs.declared.condition.Comparison.{Comparison, TheVariants.{Less, AtMost, Equal, Unequal, AtLeast, Greater}}
use Rattle.lc_sheet.specs.{declared.column.Column.Column, Conditions.{ConditionModel, TestModel, compared, compares, is_on_files, meets}}
use Rattle.lc_sheet.specs.{Conditions.{needs_files, none_of, one_of}, Values.ValueModel}
use Rattle.lc_level.specs.Level.{FileLineModel}
use Rattle.lc_walk.specs.{ReportTotals.counted_line, Sums.plus, Tally.{CountedFile, IsTally, sums_of_files}, TallyRows.TallyRowModel}
use Rattle.lc_walk.specs.{TallyRows.sums_of_rows, declared.report.Report.Report}
use Rattle.lc_walk.proofs.{ReportTotals.sum_by-map, RowSums.same_sums}
use Rattle.lc_rows.specs.Kept.{AreKeptRows, IsPart, file_meets, holds_all, row_meets, value_of_file, value_of_row}
use Rattle.lc_rows.specs.KeptLaws.{NoConditionLaw, OppositesLaw, OrderLaw, opposite, opposite_of, opposite_test, tested_sums}

pub no_condition_law : NoConditionLaw
no_condition_law r part is = is

-- ---- order

-- all pass where none fails
not_any : {X : Type 0} (p : X → Bool) (xs : List X) → list_all p xs ≡ not (list_any (λ x. not (p x)) xs)
not_any p [] = refl
not_any p (x ∷ xs) =
    elim (p x) as (λ b. (b && list_all p xs) ≡ not (not b || list_any (λ y. not (p y)) xs)) [ true ↦ not_any p xs | false ↦ refl ]

all_permuted : {X : Type 0} (p : X → Bool) (xs ys : List X) → IsPermutation xs ys → list_all p xs ≡ list_all p ys
all_permuted p xs ys same =
    not_any p xs ∙ (ap not (list_any-IsPermutation (λ x. not (p x)) xs ys same) ∙ sym (not_any p ys))

module _ (cs ds : List ConditionModel) (same : IsPermutation cs ds) where
  same_test : (value : Column → ValueModel) → holds_all value cs ≡ holds_all value ds
  same_test value = all_permuted (λ (c : ConditionModel). meets c.test (value c.column)) cs ds same

  same_files : file_meets cs ≡ file_meets ds
  same_files = fun_ext (λ f. same_test (value_of_file f))

  same_rows : row_meets cs ≡ row_meets ds
  same_rows = fun_ext (λ r. same_test (value_of_row r))

  same_need : needs_files cs ≡ needs_files ds
  same_need = list_any-IsPermutation is_on_files cs ds same

  rows_permuted : (r part : Report) → AreKeptRows (needs_files cs) cs r part.files.items part.rows.items
      → AreKeptRows (needs_files ds) ds r part.files.items part.rows.items
  rows_permuted r part are = grind (arith, common_steps, same_need, same_rows)

  part_permuted : (r part : Report) → IsPart cs r part → IsPart ds r part
  part_permuted r part is = grind (arith, common_steps, same_files, rows_permuted, same_need)

pub order_law : OrderLaw
order_law [] [] r part same is = is
order_law [] (d ∷ ds) r part same is = absurd (let e = length_permutation [] (d ∷ ds) same in omega arith)
order_law (c ∷ cs) [] r part same is = absurd (let e = length_permutation (c ∷ cs) [] same in omega arith)
order_law (c ∷ cs) (d ∷ ds) r part same is = part_permuted (c ∷ cs) (d ∷ ds) same r part is

-- ---- opposites

not_not : (b : Bool) → b ≡ not (not b)
not_not true = refl
not_not false = refl

opposite_compares : (o : Comparison) (n m : ℕ) → compares (opposite_of o) n m ≡ not (compares o n m)
opposite_compares o n m = grind (arith, common_steps, not_not)

opposite_meets : (t : TestModel) (v : ValueModel) → meets (opposite_test t) v ≡ not (meets t v)
opposite_meets (one_of texts) v = refl
opposite_meets (none_of texts) v = not_not _
opposite_meets (compared o m) v = opposite_compares o _ m

and_true : (b : Bool) → (b && true) ≡ b
and_true true = refl
and_true false = refl

opposite_holds : (c : ConditionModel) (value : Column → ValueModel)
    → holds_all value (opposite c ∷ []) ≡ not (holds_all value (c ∷ []))
opposite_holds c value =
    and_true _ ∙ (opposite_meets c.test (value c.column) ∙ ap not (sym (and_true (meets c.test (value c.column)))))

-- the sums over both parts of the files, and over both parts of the rows
files_add_up : (c : ConditionModel) (fs : List FileLineModel)
    → plus (sums_of_files (map counted_line (filter (file_meets (c ∷ [])) fs)))
    (sums_of_files (map counted_line (filter (file_meets (opposite c ∷ [])) fs)))
    ≡ sums_of_files (map counted_line fs)
files_add_up c fs =
    let other : (f : FileLineModel) → file_meets (opposite c ∷ []) f ≡ not (file_meets (c ∷ []) f) =
    λ f. opposite_holds c (value_of_file f) in
    let p = file_meets (c ∷ []) in
    let q = file_meets (opposite c ∷ []) in
    let both : (v : CountedFile → ℕ) → sum_by v (map counted_line (filter p fs)) + sum_by v (map counted_line (filter q fs))
    ≡ sum_by v (map counted_line fs)
    = λ v. ap₂ (λ a b. a + b) (sum_by-map v counted_line (filter p fs)) (sum_by-map v counted_line (filter q fs))
    ∙ (sum_by-filter_both p q other (λ f. v (counted_line f)) fs ∙ sym (sum_by-map v counted_line fs)) in
    same_sums _ _ (ap₂ (λ a b. a + b) (length-map (filter p fs) counted_line) (length-map (filter q fs) counted_line)
    ∙ (length-filter_both p q other fs ∙ sym (length-map fs counted_line)))
    (both (λ f. f.count.lines)) (both (λ f. f.count.blank)) (both (λ f. f.count.bytes))

rows_add_up : (c : ConditionModel) (rs : List TallyRowModel)
    → plus (sums_of_rows (filter (row_meets (c ∷ [])) rs)) (sums_of_rows (filter (row_meets (opposite c ∷ [])) rs)) ≡ sums_of_rows rs
rows_add_up c rs = grind (arith, common_steps, sum_by-filter_both, opposite_holds, same_sums)

or_false : (b : Bool) → (b || false) ≡ b
or_false true = refl
or_false false = refl

-- the totals of a part, by the files or by the rows that meet the conditions
totals_at : (b : Bool) (cs : List ConditionModel) (r part : Report) → needs_files cs ≡ b → IsPart cs r part
    → part.totals ≡ (if b then sums_of_files (map counted_line (filter (file_meets cs) r.files.items))
    else sums_of_rows (filter (row_meets cs) r.rows.items))
totals_at b cs r part need is = grind (arith, common_steps)

parts_add_up : (b : Bool) (c : ConditionModel) (r x y : Report) → is_on_files c ≡ b → r.totals ≡ tested_sums b r
    → IsPart (c ∷ []) r x → IsPart (opposite c ∷ []) r y → plus x.totals y.totals ≡ r.totals
parts_add_up b c r x y on has is_x is_y = grind (arith, common_steps, totals_at, or_false, files_add_up, rows_add_up)

pub opposites_law : OppositesLaw
opposites_law c r has x y is_x is_y = parts_add_up (is_on_files c) c r x y refl has is_x is_y

-- What is true of the rows that a table shows.
use Rattle.std.proofs.Common.{arith, ◌≡◌, ℕ, Bool, true, false, List, [], ◌∷◌, map, Option, Some, None, refl, sym, ◌∙◌, ap, subst}
use Rattle.std.proofs.lemmas.{Grind.common_steps, List.Sorted.{IsPermutation-refl, sum_by-IsPermutation}}
use Rattle.std.specs.{Bool.MatchBool, List.{AllByRecursion, Sorted.{IsPermutation, IsStrictlySortedBy}}}
use Rattle.std.specs.declared.cmp.Ordering.TheVariants.{Less}
use Rattle.lc_sheet.specs.{declared.{table_options.Columns.Columns, column.Number.Number}, Keys.{are_all, are_of_files}}
use Rattle.lc_walk.proofs.{ReportTotals.sum_by-map, RowSums.same_sums}
use Rattle.lc_walk.specs.{Key.{Key, key_cmp}, TallyRows.{TallyRowModel, IsInOrder}, declared.tally.sums.Sums.Sums, AllColumns.all_columns}
use Rattle.lc_rows.specs.{Laws.{PermutationLaw, TotalsLaw, WholeLaw, totals_of}, RowKeys.{RowKey, ShownRowModel, row_key, file_key_cmp}}
use Rattle.lc_rows.specs.{RowKeys.{row_key_cmp, rows_within, sums_of_shown}, ShownRows.{AreAddedUp, AreSorted, part_of_row, parts_in}}
use Rattle.lc_rows.specs.ShownRows.{parts_of}
use Rattle.lc_level.specs.Level.{FileLineModel}

-- sorted or not, the rows are the same
pub moved : (sort : Option Number) (rs sorted : List ShownRowModel) → AreSorted sort rs sorted → IsPermutation rs sorted
moved None rs sorted same = subst (λ (l : List ShownRowModel). IsPermutation rs l) (sym same) (IsPermutation-refl rs)
moved (Some n) rs sorted h = h.0

-- the rows that are shown are the summed ones in some order
pub permutation_law : PermutationLaw
permutation_law by sort rs fs shown h = (h.0, h.1, moved sort h.0 shown h.2)

-- what the parts add up to in all
parts_totals : (of_files : Bool) (by : Columns) (rs : List TallyRowModel) (fs : List FileLineModel)
    → sums_of_shown (parts_in of_files by rs fs) ≡ totals_of of_files rs fs
parts_totals of_files by rs fs = grind (arith, common_steps, sum_by-map, same_sums)

-- all rows are within all keys
all_within : (rs : List ShownRowModel) → rows_within (λ _. true) rs ≡ rs
all_within [] = refl
all_within (r ∷ rs) = ap (λ l. r ∷ l) (all_within rs)

added_totals : (parts rows : List ShownRowModel) → AreAddedUp parts rows → sums_of_shown rows ≡ sums_of_shown parts
added_totals parts rows added =
    ap sums_of_shown (sym (all_within rows)) ∙ added.sums (λ _. true) ∙ ap sums_of_shown (all_within parts)

summed_totals : (b : Bool) (parts summed : List ShownRowModel) → MatchBool b (summed ≡ parts) (AreAddedUp parts summed)
    → sums_of_shown summed ≡ sums_of_shown parts
summed_totals true parts summed same = ap sums_of_shown same
summed_totals false parts summed added = added_totals parts summed added

moved_totals : (xs ys : List ShownRowModel) → IsPermutation xs ys → sums_of_shown ys ≡ sums_of_shown xs
moved_totals xs ys h = grind (arith, common_steps, same_sums, sum_by-IsPermutation)

-- sums over fewer columns add up to the same totals
pub totals_law : TotalsLaw
totals_law by sort rs fs shown h =
    moved_totals h.0 shown (moved sort h.0 shown h.2) ∙ summed_totals (are_all by) (parts_of by rs fs) h.0 h.1
    ∙ parts_totals (are_of_files by) by rs fs

-- keys of all columns rise as the keys of the report's rows do
rows_above : (k : Key) (rs : List TallyRowModel) → AllByRecursion (λ y. key_cmp k y ≡ Less) (map (λ (r : TallyRowModel). r.key) rs)
    → AllByRecursion (λ (y : RowKey). row_key_cmp (record { directory = None; key = record { attributes = []; tally = k } }) y ≡ Less)
    (map row_key (map (part_of_row all_columns) rs))
unfolding row_key_cmp file_key_cmp
rows_above k [] all = tt
rows_above k (r ∷ rs) all = (all.0, rows_above k rs all.1)

rows_rise : (rs : List TallyRowModel) → IsInOrder rs → IsStrictlySortedBy row_key_cmp (map row_key (map (part_of_row all_columns) rs))
unfolding IsStrictlySortedBy
rows_rise [] order = tt
rows_rise (r ∷ rs) order = (rows_above r.key rs order.0, rows_rise rs order.1)

-- rows of all columns add up to themselves
pub whole_law : WholeLaw
whole_law rs order = record { sums = λ keys. refl; present = λ keys. refl; order = rows_rise rs order }

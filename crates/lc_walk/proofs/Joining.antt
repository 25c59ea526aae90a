-- What tallies stand for.
use Rattle.std.proofs.lemmas.Grind.{common_steps}
use Rattle.std.proofs.lemmas.List.{Sums.{sum_by-append, length-filter}, Sorted.{sum_by-IsPermutation, length_permutation}}
use Rattle.std.proofs.lemmas.List.Elements.{filter-append}
use Rattle.std.proofs.Common.{◌≡◌, ◌+◌, ◌≤◌, ◌^◌, List, [], ◌++◌, sym, ◌∙◌, ap, arith, length-append}
use Rattle.std.specs.List.Sorted.{IsPermutation}
use Rattle.lc_walk.specs.{Key.Key, TallyRows.{TallyRowModel, sums_of_rows, HasSumsOf, Gains, AddsUp}, Sums.{plus, no_files, IsModest}}
use Rattle.lc_walk.specs.Tally.{TallyModel, TallyHolds, IsTally, StandsFor, CountedFile, sums_of_files, files_with}
use Rattle.lc_walk.specs.declared.tally.sums.Sums.{Sums}
use Rattle.lc_walk.proofs.{Filtered.{part, sum_by-filter}, RowSums.{same_sums, sums_of_both, key_sums_of_both}, Totals.same_totals}
use Rattle.lc_walk.proofs.Totals.{totals_gained}

-- files of two lists
pub both : (fs gs : List CountedFile) → sums_of_files (fs ++ gs) ≡ plus (sums_of_files fs) (sums_of_files gs)
both fs gs = grind (arith, common_steps, same_sums, length-append, sum_by-append)

-- the rows of two tallies together
pub stands_both : (a b t : TallyModel) (fs gs : List CountedFile) → HasSumsOf (a.rows ++ b.rows) t.rows
    → t.totals ≡ plus a.totals b.totals → StandsFor a fs → StandsFor b gs → StandsFor t (fs ++ gs)
stands_both a b t fs gs joined totals left right = grind (arith, common_steps, key_sums_of_both, filter-append, both)

-- the rows of a tally, added up
pub tally_added_up : (t : TallyModel) (rs : List TallyRowModel) (fs : List CountedFile) → AddsUp t.rows rs → StandsFor t fs → IsTally fs rs
tally_added_up t rs fs added stood = grind (arith, common_steps)

kept_as : (rs : List TallyRowModel) (a b t : Sums) → sums_of_rows rs ≡ plus a b → t ≡ plus a b → IsModest a → IsModest b
    → a.files + b.files ≤ 2 ^ 63 → TallyHolds (record { rows = rs; totals = t })
kept_as rs a b t rows is m n few = grind (arith, common_steps)

-- a tally that has grown is well kept
pub kept_grown : (t : TallyModel) (rs : List TallyRowModel) (k : Key) (s u : Sums) → TallyHolds t → Gains t.rows rs k s
    → u ≡ plus t.totals s → IsModest s → t.totals.files + s.files ≤ 2 ^ 63 → TallyHolds (record { rows = rs; totals = u })
kept_grown t rs k s u kept gained is modest few = grind (arith, common_steps, kept_as, totals_gained)

-- and one that has the rows of two
pub kept_both : (t o : TallyModel) (rs : List TallyRowModel) (u : Sums) → TallyHolds t → TallyHolds o → HasSumsOf (t.rows ++ o.rows) rs
    → u ≡ plus t.totals o.totals → t.totals.files + o.totals.files ≤ 2 ^ 63 → TallyHolds (record { rows = rs; totals = u })
kept_both t o rs u left right joined is few =
    let all = same_totals rs (t.rows ++ o.rows) joined.sums ∙ sums_of_both t.rows o.rows
    ∙ ap (λ (a : Sums). plus a (sums_of_rows o.rows)) (sym left.totals) ∙ ap (plus t.totals) (sym right.totals) in
    kept_as rs t.totals o.totals u all is left.modest right.modest few

-- an empty tally is well kept
pub kept_none : (rs : List TallyRowModel) (s : Sums) → rs ≡ [] → s ≡ no_files → TallyHolds (record { rows = rs; totals = s })
kept_none rs s is_none no_sums = grind (arith, common_steps)

-- and stands for no files
pub stands_none : (rs : List TallyRowModel) (s : Sums) → rs ≡ [] → s ≡ no_files → StandsFor (record { rows = rs; totals = s }) []
stands_none rs s is_none no_sums = grind (arith, common_steps)

-- the sums of files in another order
module _ (fs gs : List CountedFile) (moved : IsPermutation fs gs) where
  key_sums_permuted : (j : Key) → sums_of_files (files_with j fs) ≡ sums_of_files (files_with j gs)
  key_sums_permuted j = grind (arith, common_steps, sum_by-filter, sum_by-IsPermutation, part, same_sums, length-filter)

  pub sums_permuted : sums_of_files fs ≡ sums_of_files gs
  sums_permuted = grind (arith, common_steps, sum_by-IsPermutation, same_sums, length_permutation)

-- what a tally stands for has no order
pub stands_permuted : (t : TallyModel) (fs gs : List CountedFile) → IsPermutation fs gs → StandsFor t fs → StandsFor t gs
stands_permuted t fs gs moved stood = record {
  sums = λ j. stood.sums j ∙ key_sums_permuted fs gs moved j;
  filled = stood.filled;
  totals = stood.totals ∙ sums_permuted fs gs moved;
}

-- and neither have the files of rows
pub tally_permuted : (rs : List TallyRowModel) (fs gs : List CountedFile) → IsPermutation fs gs → IsTally fs rs → IsTally gs rs
tally_permuted rs fs gs moved is = grind (arith, common_steps, key_sums_permuted)

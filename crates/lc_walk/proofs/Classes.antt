-- The sums over text and over binary files.
use Rattle.std.proofs.{lemmas.{Grind.common_steps, List.Sums.{sum_by-cons, sum_by-le-sum_by}}, Common.{◌≡◌, ℕ, ◌+◌, Bool, not, List, []}}
use Rattle.std.proofs.Common.{◌∷◌, filter, refl, sym, ◌∙◌, subst, arith}
use Rattle.std.specs.List.{sum_by}
use Rattle.lc_walk.proofs.{Filtered.{part, sum_by-filter}, RowSums.same_sums, Totals.same_totals}
use Rattle.lc_walk.specs.{Classes.{ClassesFit, binary_sums, classes_of, is_binary, text_sums}, Sums.{IsInRange, plus}, Tally.TallyHolds}
use Rattle.lc_walk.specs.{Tally.TallyModel, TallyRows.{AddsUp, TallyRowModel, sums_of_rows}, declared.tally.classes.ClassSums.ClassSums}

-- sums by class with the same fields are the same
pub same_classes : (a b : ClassSums) → a.text ≡ b.text → a.binary ≡ b.binary → a ≡ b
same_classes a b t n = λ i. record { text = t i; binary = n i }

split_at : (v : TallyRowModel → ℕ) (r : TallyRowModel) (rs : List TallyRowModel) (b : Bool) → is_binary r ≡ b
    → sum_by v (filter (λ r. not (is_binary r)) rs) + sum_by v (filter is_binary rs) ≡ sum_by v rs
    → sum_by v (filter (λ r. not (is_binary r)) (r ∷ rs)) + sum_by v (filter is_binary (r ∷ rs)) ≡ sum_by v (r ∷ rs)
split_at v r rs b e rest = grind (arith, common_steps, sum_by-cons)

split_sums : (v : TallyRowModel → ℕ) (rs : List TallyRowModel)
    → sum_by v (filter (λ r. not (is_binary r)) rs) + sum_by v (filter is_binary rs) ≡ sum_by v rs
split_sums v [] = refl
split_sums v (r ∷ rs) = split_at v r rs (is_binary r) refl (split_sums v rs)

-- what is binary and what is not add up to all rows
pub both_are_all : (rs : List TallyRowModel) → plus (text_sums rs) (binary_sums rs) ≡ sums_of_rows rs
both_are_all rs = grind (arith, common_steps, same_sums, split_sums)

-- where the sums over all rows are in range, those over the rows that pass a test are
pub filtered_fits : (p : TallyRowModel → Bool) (rs : List TallyRowModel) → IsInRange (sums_of_rows rs)
    → IsInRange (sums_of_rows (filter p rs))
filtered_fits p rs fits = grind (arith, common_steps, sum_by-filter, sum_by-le-sum_by, part)

pub classes_fit : (rs : List TallyRowModel) → IsInRange (sums_of_rows rs) → ClassesFit (classes_of rs)
classes_fit rs fits = record { text = filtered_fits (λ r. not (is_binary r)) rs fits; binary = filtered_fits is_binary rs fits }

-- the rows of a tally have its totals, which are in range
pub rows_fit : (t : TallyModel) (rs : List TallyRowModel) → TallyHolds t → AddsUp t.rows rs → IsInRange (sums_of_rows rs)
rows_fit t rs holds adds =
    let few = holds.modest in
    let fits : IsInRange t.totals = record {
      files = let n = few.files in omega arith;
      lines = let n = few.files in let l = few.lines in omega arith;
      blank = let n = few.files in let l = few.blank in omega arith;
      bytes = let n = few.files in let l = few.bytes in omega arith;
    } in
    subst IsInRange (holds.totals ∙ same_totals t.rows rs (λ k. sym (adds.same.sums k))) fits

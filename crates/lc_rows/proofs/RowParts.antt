-- Each row is a part of all rows, and none is larger than the largest.
use Rattle.std.proofs.{lemmas.{Grind.common_steps, List.{Elements.{All-cons, All-nil, All-take, All-weaker}, Sums.sum_by-cons}}, Common.◌≤◌}
use Rattle.std.proofs.Common.{ℕ, List, [], ◌∷◌, Option, Some, None, arith}
use Rattle.std.specs.List.{All, sum_by}
use Rattle.lc_sheet.specs.declared.column.Number.{Number, TheVariants.{Files, Lines, Blank, Bytes}}
use Rattle.lc_rows.specs.{RowKeys.{ShownRowModel, sums_of_shown}, Sheets.largest, ShownRows.number_in, Views.first_of}

module _ {X : Type 0} (f : X → ℕ) where
  -- no term is larger than the sum
  within_sum : (xs : List X) → All (λ x. f x ≤ sum_by f xs) xs
  within_sum xs = grind (arith, common_steps, sum_by-cons)

pub rows_within_sum : (n : Number) (rs : List ShownRowModel) → All (λ r. number_in n r.sums ≤ number_in n (sums_of_shown rs)) rs
rows_within_sum n rs = grind (arith, common_steps, within_sum)

pub rows_within_largest : (n : Number) (rs : List ShownRowModel) → All (λ r. number_in n r.sums ≤ largest n rs) rs
rows_within_largest n [] = All-nil (λ r. number_in n r.sums ≤ largest n [])
rows_within_largest n (r ∷ rs) =
    All-cons (λ q. number_in n q.sums ≤ largest n (r ∷ rs)) r rs (omega arith)
    (All-weaker (λ q. number_in n q.sums ≤ largest n rs) (λ q. number_in n q.sums ≤ largest n (r ∷ rs)) (λ q h. omega arith) rs
    (rows_within_largest n rs))

-- what all rows are, the first are
pub first_are : (P : ShownRowModel → Type 0) (top : Option ℕ) (rs : List ShownRowModel) → All P rs → All P (first_of top rs)
first_are P None rs all = all
first_are P (Some n) rs all = All-take P n rs all

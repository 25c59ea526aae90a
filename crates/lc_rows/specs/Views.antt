-- What a table shows of its rows and files: as many as its options request.
use Rattle.std.specs.Prelude.{ℕ, List, [], ◌∷◌, take, drop, Option, Some, None}
use Rattle.lc_rows.specs.RowKeys.{ShownRowModel, sums_of_shown}
use Rattle.lc_walk.specs.declared.tally.sums.Sums.{Sums}
use Rattle.lc_level.specs.Level.{FileLineModel}

-- the shown rows, the sums over the rows that are cut off if there are any, and the shown files
pub record ViewModel : Type 0 where
  pub rows : List ShownRowModel
  pub others : Option Sums
  pub files : List FileLineModel

-- the first n elements, or all elements if there is no n
abbrev pub first_of : {X : Type 0} → Option ℕ → List X → List X
first_of None xs = xs
first_of (Some n) xs = take n xs

-- the elements after the first n, or none if there is no n
abbrev pub rest_of : {X : Type 0} → Option ℕ → List X → List X
rest_of None xs = []
rest_of (Some n) xs = drop n xs

-- the sums over rows, if there are any rows
abbrev pub sums_of_some : List ShownRowModel → Option Sums
sums_of_some [] = None
sums_of_some (r ∷ rs) = Some (sums_of_shown (r ∷ rs))

-- the first of these rows and files, and the sums over the other rows
abbrev pub view_of : Option ℕ → List ShownRowModel → List FileLineModel → ViewModel
view_of top rows files = record {
  rows = first_of top rows;
  others = sums_of_some (rest_of top rows);
  files = first_of top files;
}

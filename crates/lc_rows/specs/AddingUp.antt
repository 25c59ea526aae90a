-- Parts added to rows one by one, in the order of their keys.
use Rattle.std.specs.{Prelude.{◌≡◌, List, [], ◌∷◌, ◌++◌}, Bool.MatchBool}
use Rattle.lc_walk.specs.Sums.{plus}
use Rattle.lc_rows.specs.RowKeys.{ShownRowModel, row_key, row_with, same_row_key}

-- a part is added to the last row if both have the same key; otherwise the last row is appended to the rows, and the part is the new last
-- row
abbrev pub IsAdded : List ShownRowModel → ShownRowModel → ShownRowModel → List ShownRowModel → ShownRowModel → Type 0
IsAdded rows last part rows_after last_after = MatchBool (same_row_key (row_key last) (row_key part))
    ((rows_after ≡ rows) × (last_after ≡ row_with (row_key last) (plus last.sums part.sums)))
    ((rows_after ≡ rows ++ last ∷ []) × (last_after ≡ part))

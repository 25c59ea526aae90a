-- Lines whose last cell ends the line without padding, and lines without such a cell.
use Rattle.std.specs.Prelude.{Bool, true, false, List, [], ◌∷◌}
use Rattle.lc_sheet.specs.declared.column.Side.{Side, TheVariants.{Left, Right, End}}

-- whether no cell ends its line
abbrev pub has_no_end : List Side → Bool
has_no_end [] = true
has_no_end (Left ∷ ss) = has_no_end ss
has_no_end (Right ∷ ss) = has_no_end ss
has_no_end (End ∷ ss) = false

-- whether the last cell, and no other, ends its line
abbrev pub is_open : List Side → Bool
is_open [] = false
is_open (Left ∷ ss) = is_open ss
is_open (Right ∷ ss) = is_open ss
is_open (End ∷ []) = true
is_open (End ∷ s ∷ ss) = false

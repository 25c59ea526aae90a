-- One line of a section.
use Rattle.std.proofs.{Common.{arith, ◌≡◌, ℕ, ◌<◌, ◌≤◌, List, length, get_or, slice_get, Some, None}, lemmas.Grind.common_steps}
use Rattle.std.proofs.{lemmas.Option.{slice_get-get_or, slice_get-map, slice_get_past}}
use Rattle.lc_sheet.specs.{Sheets.{line_of, lines_of}, Values.ValueModel, declared.column.Column.Column}

-- a line that was read
pub line_there : {X : Type 0} (value : X → Column → ValueModel) (columns : List Column) (lines : List X) (shown : List (List ValueModel))
    (i : ℕ) (x : X) → lines_of value columns lines ≡ shown → i < length lines → x ≡ get_or lines i x
    → slice_get shown i ≡ Some (line_of value columns x)
line_there value columns lines shown i x are within read = grind (arith, common_steps, slice_get-map, slice_get-get_or)

-- a line that is not there
pub line_missing : {X : Type 0} (value : X → Column → ValueModel) (columns : List Column) (lines : List X)
    (shown : List (List ValueModel)) (i : ℕ) → lines_of value columns lines ≡ shown → length lines ≤ i → slice_get shown i ≡ None
line_missing value columns lines shown i are past = grind (arith, common_steps, slice_get-map, slice_get_past)

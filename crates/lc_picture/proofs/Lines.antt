-- Lines of the chart that are written one after the other.
use Rattle.std.proofs.Common.{◌≡◌, ℕ, ◌+◌, ◌<◌, List, ◌∷◌, ◌++◌, length, drop, get_or, sym, ap, ◌∙◌}
use Rattle.lc_sheet.specs.{Sheets.{line_of, lines_of}, Values.ValueModel, declared.column.Column.Column}
use Rattle.lc_picture.specs.{Chart.{coloured_line, coloured_lines}, Pieces.text_of}
use Rattle.lc_picture.proofs.{Steps.one_on, Texts.more}

-- behind the line of a place come those of the places after it
pub one_line_more : {X : Type 0} (value : X → Column → ValueModel) (columns : List Column) (t0 t1 all : List ℕ) (line d : X)
    (lines : List X) (place : ℕ) → place < length lines → line ≡ get_or lines place d
    → t1 ≡ t0 ++ text_of (coloured_line place (line_of value columns line))
    → t0 ++ text_of (coloured_lines place (lines_of value columns (drop place lines))) ≡ all
    → t1 ++ text_of (coloured_lines (place + 1) (lines_of value columns (drop (place + 1) lines))) ≡ all
one_line_more {X} value columns t0 t1 all line d lines place inside is e same =
    let next : drop place lines ≡ line ∷ drop (place + 1) lines = one_on line d lines place inside is in
    more t0 t1 all (coloured_line place (line_of value columns line))
    (coloured_lines (place + 1) (lines_of value columns (drop (place + 1) lines))) e
    (ap (λ (xs : List X). t0 ++ text_of (coloured_lines place (lines_of value columns xs))) (sym next) ∙ same)

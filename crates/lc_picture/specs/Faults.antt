-- The list, at the top of a page, of what could not be read.
use Rattle.std.specs.Prelude.{ℕ, ◌-◌, nat_lt, if◌then◌else◌, List, [], ◌∷◌, ◌++◌, flat_map, length, take, codes}
use Rattle.lc_level.specs.{FaultLines.FaultLineModel, FaultWords.fault_word}
use Rattle.lc_text.specs.Visible.{visible_path}
use Rattle.lc_picture.specs.Pieces.{Piece, count, markup, name}

-- the greatest number of errors that a page lists
abbrev pub faults_listed : ℕ
faults_listed = 100

-- the line about an error: a path, and the word for what was wrong
abbrev pub fault_line : FaultLineModel → List Piece
fault_line f =
    markup (codes "<li>") ∷ name (visible_path f.path) ∷ markup (codes ": ") ∷ name (fault_word f.word) ∷ markup (codes "</li>\n") ∷ []

abbrev pub fault_lines : List FaultLineModel → List Piece
fault_lines fs = flat_map fault_line fs

abbrev pub more_line : ℕ → List Piece
more_line n = markup (codes "<li>and ") ∷ count n ∷ markup (codes " more</li>\n") ∷ []

-- how many errors are not listed, if some are not
abbrev pub more_faults : ℕ → ℕ → List Piece
more_faults listed all = if nat_lt listed all then more_line (all - listed) else []

-- the beginning of the list of errors: how many there are
abbrev pub faults_begin : ℕ → List Piece
faults_begin all =
    markup (codes "<p>What could not be read is not in the picture. Errors: ") ∷ count all ∷ markup (codes "</p>\n<ul>\n") ∷ []

abbrev pub faults_end : ℕ → List Piece
faults_end all = more_faults faults_listed all ++ markup (codes "</ul>\n") ∷ []

-- the list of errors: how many there are, the first of them, and how many more; nothing where there are none
abbrev pub faults_part : List FaultLineModel → List Piece
faults_part [] = []
faults_part (f ∷ fs) =
    faults_begin (length (f ∷ fs)) ++ (fault_lines (take faults_listed (f ∷ fs)) ++ faults_end (length (f ∷ fs)))

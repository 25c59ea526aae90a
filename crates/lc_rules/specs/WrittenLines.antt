-- The lines of an attribute file as they are written in its text.
use Rattle.std.specs.Prelude.{ℕ, ◌==◌, if◌then◌else◌, List, [], ◌∷◌, ◌++◌, drop, map, slice_index_or, Bool, Option, Some, None}
use Rattle.std.specs.List.{before_first, filter_map, position_or_len}
use Rattle.lc_glob.specs.{Patterns.{PatternModel, dead}, Pieces.is_byte, Reading.pattern_of}
use Rattle.lc_rules.specs.{Bytes.{line_feed, quotation_mark}, Attributes.AssignmentModel, AttrWords.{is_white, words, assign}}
use Rattle.lc_rules.specs.{AttrQuotes.unquoted, AttrLines.PatternLineModel}

-- the assignments among these words; in a line that gives something, all words are assignments
abbrev pub assigned : List ℕ → List AssignmentModel
assigned bytes = filter_map assign (words bytes)

-- the assignments of the words of a line, if each word is one
abbrev pub all_assigned : Bool → List ℕ → Option (List AssignmentModel)
all_assigned all bytes = if all then Some (assigned bytes) else None

-- the pattern of a line and the bytes after it: the pattern is the line's first word, or the text in quotation marks
abbrev pub halves : List ℕ → Option (List ℕ × List ℕ)
halves [] = None
halves (b ∷ bs) =
    if b == quotation_mark then unquoted 0 bs
    else Some (before_first is_white (b ∷ bs), drop (position_or_len is_white (b ∷ bs)) (b ∷ bs))

-- the pattern and the assignments of a line with these halves
abbrev pub line_of : Option (List ℕ × List ℕ) → PatternLineModel
line_of None = record { pattern = dead; assigns = [] }
line_of (Some h) = record { pattern = pattern_of h.0; assigns = assigned h.1 }

-- the line that begins at a place of a text
abbrev pub line_from : List ℕ → ℕ → List ℕ
line_from text start = before_first (is_byte line_feed) (drop start text)

-- the pattern and the assignments of the line that begins at a place of a text
abbrev pub written_line : List ℕ → ℕ → PatternLineModel
written_line text start = line_of (halves (line_from text start))

-- a text, and those of its lines that were added to a table
pub record LineTableModel : Type 0 where
  pub text : List ℕ
  pub lines : List PatternLineModel

-- the lines that begin at these places of a text; and the patterns of lines
abbrev pub lines_in : List ℕ → List ℕ → List PatternLineModel
lines_in text starts = map (written_line text) starts

abbrev pub patterns_in : List PatternLineModel → List PatternModel
patterns_in lines = map (λ line. line.pattern) lines

-- the line at an index
abbrev pub line_at : List PatternLineModel → ℕ → PatternLineModel
line_at lines index = slice_index_or lines index (line_of None)

-- the table of a text without lines, and a table with one more line
abbrev pub without_lines : List ℕ → LineTableModel
without_lines text = record { text = text; lines = [] }

abbrev pub with_line : LineTableModel → PatternLineModel → LineTableModel
with_line table line = record { text = table.text; lines = table.lines ++ line ∷ [] }

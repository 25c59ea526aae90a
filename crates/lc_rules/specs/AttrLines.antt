-- The lines of an attribute file: gitattributes(5), DESCRIPTION and DEFINING MACRO ATTRIBUTES.
use Rattle.std.specs.Prelude.{ℕ, Bool, false, ◌==◌, ◌&&◌, if◌then◌else◌, List, [], ◌∷◌, take, drop, Option, Some, None, bytes_eq, codes}
use Rattle.std.specs.List.{filter_map}
use Rattle.lc_glob.specs.{Bytes.exclamation_mark, Patterns.PatternModel, Reading.pattern_of}
use Rattle.lc_rules.specs.{Bytes.{hash, quotation_mark}, RuleLines.lines_of, Attributes.{AssignmentModel, MacroModel}, AttrWords.is_white}
use Rattle.lc_rules.specs.{AttrWords.{is_some_word, words, is_name, assigns}, AttrQuotes.unquoted}

-- a line with a pattern, and the assignments for the paths that the pattern matches
pub record PatternLineModel : Type 0 where
  pub pattern : PatternModel
  pub assigns : List AssignmentModel

-- what a line gives that gives anything: a macro, or assignments for the paths that a pattern matches
pub data AttrLineModel : Type 0 where
  macro_line : MacroModel → AttrLineModel
  pattern_line : PatternLineModel → AttrLineModel

-- the macro with this name and these assignments, if each word of the line is an assignment and the name is one that a macro can have
abbrev pub as_macro : List ℕ → Option (List AssignmentModel) → Option AttrLineModel
as_macro name None = None
as_macro name (Some body) = if is_name name then Some (macro_line (name, body)) else None

-- the pattern with these assignments, if each word after the pattern is an assignment
abbrev pub as_pattern : List ℕ → Option (List AssignmentModel) → Option AttrLineModel
as_pattern bytes None = None
as_pattern bytes (Some a) = Some (pattern_line (record { pattern = pattern_of bytes; assigns = a }))

-- whether a pattern begins with an exclamation mark
abbrev pub is_negated : List ℕ → Bool
is_negated [] = false
is_negated (b ∷ bs) = b == exclamation_mark

-- what a line with this pattern and these assignments gives: nothing if the pattern begins with an exclamation mark
abbrev pub by_pattern : List ℕ → Option (List AssignmentModel) → Option AttrLineModel
by_pattern bytes a = if is_negated bytes then None else as_pattern bytes a

-- the name of a macro in a line's first word: what follows `[attr]`, if anything does
abbrev pub macro_word : List ℕ → Option (List ℕ)
macro_word w = if bytes_eq (take 6 w) (codes "[attr]") && is_some_word (drop 6 w) then Some (drop 6 w) else None

-- what a line gives by its first word: a line that defines a macro gives something only in a top-level file
abbrev pub by_macro : Bool → Option (List ℕ) → List ℕ → Option (List AssignmentModel) → Option AttrLineModel
by_macro top None word a = by_pattern word a
by_macro top (Some name) word a = if top then as_macro name a else None

-- what a line gives by its words, the first of which is a macro's name after `[attr]`, or a pattern that is not quoted
abbrev pub by_words : Bool → List (List ℕ) → Option AttrLineModel
by_words top [] = None
by_words top (w ∷ ws) = by_macro top (macro_word w) w (assigns ws)

-- what a line gives whose pattern is quoted; the words follow the closing quotation mark, with or without white space before them
abbrev pub by_quote : Option (List ℕ × List ℕ) → Option AttrLineModel
by_quote None = None
by_quote (Some r) = by_pattern r.0 (assigns (words r.1))

-- a line without the white space at its start; white space at its end is part of no word
abbrev pub trimmed : List ℕ → List ℕ
trimmed [] = []
trimmed (b ∷ bs) = if is_white b then trimmed bs else b ∷ bs

-- what a line gives: nothing if it is empty or a comment
abbrev pub given_by : Bool → List ℕ → Option AttrLineModel
given_by top [] = None
given_by top (b ∷ bs) =
    if b == hash then None
    else if b == quotation_mark then by_quote (unquoted 0 bs)
    else by_words top (words (b ∷ bs))

-- what these lines of an attribute file give, in order
abbrev pub given_lines : Bool → List (List ℕ) → List AttrLineModel
given_lines top ls = filter_map (λ l. given_by top (trimmed l)) ls

-- what the lines of a file give, in order; `top` says whether the file is top-level
abbrev pub attribute_lines_of : Bool → List ℕ → List AttrLineModel
attribute_lines_of top bytes = given_lines top (lines_of bytes)

-- the macro that a line defines, and the pattern with assignments that a line has, if the line gives it
abbrev pub macro_in : AttrLineModel → Option MacroModel
macro_in (macro_line m) = Some m
macro_in (pattern_line l) = None

abbrev pub line_in : AttrLineModel → Option PatternLineModel
line_in (macro_line m) = None
line_in (pattern_line l) = Some l

-- an attribute file: whether it is top-level, its macros and its lines with a pattern, both in order
pub record AttrFileModel : Type 0 where
  pub is_top : Bool
  pub macros : List MacroModel
  pub lines : List PatternLineModel

-- the attribute file that these bytes are read as
abbrev pub attribute_file_of : Bool → List ℕ → AttrFileModel
attribute_file_of top bytes = record {
  is_top = top;
  macros = filter_map macro_in (attribute_lines_of top bytes);
  lines = filter_map line_in (attribute_lines_of top bytes);
}

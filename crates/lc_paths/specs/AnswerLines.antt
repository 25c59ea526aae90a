-- The output line for a path: four fields with tabs between. Names, patterns and paths are written by `escape`.
use Rattle.std.specs.Prelude.{ℕ, List, ◌++◌, codes, Option, Some, None}
use Rattle.lc_text.specs.Names.{NameModel, named}

-- the place of the rule that is the cause, or another reason, or a dash if there is neither
abbrev pub place_text : (List ℕ → List ℕ) → Option NameModel → List ℕ
place_text escape None = codes "-"
place_text escape (Some name) = named escape name

-- the text of a rule's line, or a dash if there is no rule
abbrev pub pattern_text : (List ℕ → List ℕ) → Option (List ℕ) → List ℕ
pattern_text escape None = codes "-"
pattern_text escape (Some pattern) = escape pattern

-- the output line: a word, a place, a pattern, and the path as it was read
abbrev pub answer_line : (List ℕ → List ℕ) → List ℕ → Option NameModel → Option (List ℕ) → List ℕ → List ℕ
answer_line escape word place pattern path =
    word ++ codes "\t" ++ place_text escape place ++ codes "\t" ++ pattern_text escape pattern ++ codes "\t" ++ escape path ++ codes "\n"

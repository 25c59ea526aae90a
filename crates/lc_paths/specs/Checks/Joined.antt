-- Rules and paths in one input: the rules are before the first line of two dashes, the paths after it.
use Rattle.std.specs.{Prelude.{ℕ, Bool, ◌||◌, cond, List, [], codes, bytes_eq}, List.{list_any, flat_map, before_first, after_first}}
use Rattle.std.specs.List.{join_with_byte}
use Rattle.lc_glob.specs.Pieces.{pieces_of}
use Rattle.lc_rules.specs.{Bytes.line_feed, IgnoreRules.rules_of}
use Rattle.lc_text.specs.{Lines.with_feed, declared.lines.PathEnd.PathEnd}
use Rattle.lc_paths.specs.Checks.CheckText.{text_by}

-- two dashes, perhaps with a carriage return after them
abbrev pub is_dashes : List ℕ → Bool
is_dashes line = bytes_eq line (codes "--") || bytes_eq line (codes "--\r")

-- the lines before the first line of dashes, or all bytes if there is no such line
abbrev pub rules_part : List ℕ → List ℕ
rules_part bytes =
    cond (list_any is_dashes (pieces_of line_feed bytes)) (flat_map with_feed (before_first is_dashes (pieces_of line_feed bytes))) bytes

-- the bytes after the first line of dashes, or none
abbrev pub paths_part : List ℕ → List ℕ
paths_part bytes =
    cond (list_any is_dashes (pieces_of line_feed bytes)) (join_with_byte line_feed (after_first is_dashes (pieces_of line_feed bytes))) []

-- the output of a joined check: the lines for the paths, by the rules in the same input
abbrev pub joined_text : (List ℕ → List ℕ) → PathEnd → List ℕ → List ℕ
joined_text escape end bytes = text_by escape (rules_of (rules_part bytes)) end (paths_part bytes)

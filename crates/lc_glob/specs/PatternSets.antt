-- Many patterns in order, and which of them match.
use Rattle.std.specs.Prelude.{ℕ, zero, suc, Bool, if◌then◌else◌, List, Option, Some, None, slice_index_or}
use Rattle.lc_glob.specs.{IsMatch.is_match, Patterns.{PatternModel, dead}}

-- the pattern at an index
abbrev pub pattern_at : List PatternModel → ℕ → PatternModel
pattern_at patterns index = slice_index_or patterns index dead

-- the greatest index below a bound whose pattern matches a path, if there is one
abbrev pub last_match_below : List PatternModel → List ℕ → Bool → ℕ → Option ℕ
last_match_below patterns path is_dir zero = None
last_match_below patterns path is_dir (suc index) =
    if is_match (pattern_at patterns index) path is_dir then Some index else last_match_below patterns path is_dir index

-- The greatest number of byte tests of a match, by the lengths of a pattern and a path.
use Rattle.std.specs.Prelude.{ℕ, ◌+◌, ◌*◌, List, [], ◌∷◌, length}
use Rattle.lc_glob.specs.{Path.segments_of, Patterns.{SegmentModel, plain, double_star, PatternModel}}

-- the number of tokens of the plain segments, and one more for each plain segment
abbrev pub tokens_with_ends : List SegmentModel → ℕ
tokens_with_ends [] = 0
tokens_with_ends (double_star ∷ r) = tokens_with_ends r
tokens_with_ends (plain us ∷ r) = (length us + 1) + tokens_with_ends r

-- the number of bytes of a path's segments, and one more for each segment
abbrev pub bytes_with_ends : List (List ℕ) → ℕ
bytes_with_ends [] = 0
bytes_with_ends (n ∷ ns) = (length n + 1) + bytes_with_ends ns

-- the greatest number of byte tests: each token and each end of a plain segment, at each byte and each end of a path's segment
abbrev pub full_cost : List SegmentModel → List (List ℕ) → ℕ
full_cost segments path = tokens_with_ends segments * bytes_with_ends path

-- the greatest number of byte tests of a pattern with a path
abbrev pub match_cost : PatternModel → List ℕ → ℕ
match_cost p path = full_cost p.segments (segments_of path)

-- Flags for the directories above a path, one for each name on the way down.
use Rattle.std.specs.Prelude.{ℕ, ◌≡◌, ◌<◌, ◌≤◌, ◌+◌, ◌↔◌, Bool, false, true, ◌&&◌, ◌||◌, List, [], ◌∷◌, length, map, take, slice_index_or}
use Rattle.std.specs.{Prelude.IsTrue, Borrow.Bor, List.list_any}
use Rattle.lc_glob.specs.{Tokens.is_star, Patterns.{SegmentModel, plain, double_star, PatternModel}, Path.segments_of, IsMatch.is_match}

-- the bytes of borrowed names
abbrev pub names_of : List (Bor (List ℕ)) → List (List ℕ)
names_of names = map (λ name. name.now) names

-- whether the flag of a place is set
abbrev pub IsSet : List Bool → ℕ → Type 0
IsSet flags k = IsTrue (slice_index_or flags k false)

-- the flag of each place is set exactly if P holds of the place
abbrev pub AreSet : List Bool → (ℕ → Type 0) → Type 0
AreSet flags P = (k : ℕ) → k < length flags → IsSet flags k ↔ P k

-- P holds of the place before k
abbrev pub Before : (ℕ → Type 0) → ℕ → Type 0
Before P k = (i : ℕ) × (k ≡ i + 1) × P i

-- P holds of the place k or of one before it
abbrev pub UpTo : (ℕ → Type 0) → ℕ → Type 0
UpTo P k = (i : ℕ) × (i ≤ k) × P i

-- the flag of each name is set exactly where the pattern matches a directory whose path has the names up to it
abbrev pub TellMatches : PatternModel → List (List ℕ) → List Bool → Type 0
TellMatches p names flags =
    (k : ℕ) (path : List ℕ) → k < length names → segments_of path ≡ take (k + 1) names
    → slice_index_or flags k false ≡ is_match p path Bool.true

-- whether a segment is a double star
abbrev pub is_double : SegmentModel → Bool
is_double (plain us) = false
is_double double_star = true

-- whether a segment is a double star or has a star
abbrev pub is_wide : SegmentModel → Bool
is_wide (plain us) = list_any is_star us
is_wide double_star = true

-- whether a double star comes after a wide segment, which is one of these or, if `wide` is true, came before them
abbrev pub has_nested_after : Bool → List SegmentModel → Bool
has_nested_after wide [] = false
has_nested_after wide (s ∷ r) = wide && is_double s || has_nested_after (wide || is_wide s) r

-- whether a double star comes after a wide segment: a match with one directory then searches again what a match with a directory above it
-- searched
abbrev pub has_nested_wildcards : PatternModel → Bool
has_nested_wildcards p = has_nested_after false p.segments

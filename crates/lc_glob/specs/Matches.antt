-- What a pattern matches: gitignore(5), PATTERN FORMAT.
use Rattle.std.specs.Prelude.{ℕ, Bool, ◌≡◌, List, [], ◌∷◌, ◌++◌, IsTrue}
use Rattle.lc_glob.specs.{Fits.Fits, Patterns.{SegmentModel, plain, double_star, PatternModel}, Path.segments_of}

-- the segments of an anchored pattern match a path's: a plain segment matches one name that it fits; a double star matches any run of
-- names, also an empty one, but at least one name if it is the last segment
abbrev pub MatchesPath : List SegmentModel → List (List ℕ) → Type 0
MatchesPath [] [] = Unit {0}
MatchesPath [] (n ∷ ns) = ⊥
MatchesPath (plain us ∷ r) [] = ⊥
MatchesPath (plain us ∷ r) (n ∷ ns) = Fits us n × MatchesPath r ns
MatchesPath (double_star ∷ []) [] = ⊥
MatchesPath (double_star ∷ []) (n ∷ ns) = Unit {0}
MatchesPath (double_star ∷ s ∷ r) path = (a b : List (List ℕ)) × (path ≡ a ++ b) × MatchesPath (s ∷ r) b

-- the one segment of a pattern that isn't anchored fits the last segment of a path
abbrev pub FitsLast : List SegmentModel → List (List ℕ) → Type 0
FitsLast [] path = ⊥
FitsLast (plain us ∷ []) path = (above : List (List ℕ)) × (name : List ℕ) × (path ≡ above ++ name ∷ []) × Fits us name
FitsLast (plain us ∷ s ∷ r) path = ⊥
FitsLast (double_star ∷ r) path = ⊥

-- the segments of a pattern, anchored or not, match those of a path
abbrev pub SegmentsMatch : Bool → List SegmentModel → List (List ℕ) → Type 0
SegmentsMatch Bool.false segments path = FitsLast segments path
SegmentsMatch Bool.true segments path = MatchesPath segments path

-- the pattern matches the path of a directory, or of something else
abbrev pub Matches : PatternModel → List ℕ → Bool → Type 0
Matches p path is_dir = (p.is_dead ≡ Bool.false) × (IsTrue p.is_dir_only → IsTrue is_dir)
    × SegmentsMatch p.is_anchored p.segments (segments_of path)

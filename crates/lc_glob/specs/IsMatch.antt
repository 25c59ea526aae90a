-- Whether a pattern matches, as a test that computes.
use Rattle.std.specs.Prelude.{ℕ, Bool, true, false, not, ◌&&◌, ◌||◌, ◌↔◌, List, [], ◌∷◌, IsTrue}
use Rattle.lc_glob.specs.Tokens.{TokenModel, literal, any_byte, star, class, takes}
use Rattle.lc_glob.specs.{Patterns.{SegmentModel, plain, double_star, PatternModel}, Path.segments_of, Matches.Matches}

-- whether the rest of a list passes the test after some cut, also a cut at an end of the list
abbrev pub some_rest : {A : Type 0} → (List A → Bool) → List A → Bool
some_rest test [] = test []
some_rest test (x ∷ xs) = test (x ∷ xs) || some_rest test xs

-- whether the tokens fit the name
abbrev pub fits : List TokenModel → List ℕ → Bool
fits [] [] = true
fits [] (b ∷ bs) = false
fits (star ∷ us) name = some_rest (fits us) name
fits (literal c ∷ us) [] = false
fits (literal c ∷ us) (b ∷ bs) = takes (literal c) b && fits us bs
fits (any_byte ∷ us) [] = false
fits (any_byte ∷ us) (b ∷ bs) = takes any_byte b && fits us bs
fits (class n rs ∷ us) [] = false
fits (class n rs ∷ us) (b ∷ bs) = takes (class n rs) b && fits us bs

-- whether the segments of an anchored pattern match the segments of a path
abbrev pub matches_path : List SegmentModel → List (List ℕ) → Bool
matches_path [] [] = true
matches_path [] (n ∷ ns) = false
matches_path (plain us ∷ r) [] = false
matches_path (plain us ∷ r) (n ∷ ns) = fits us n && matches_path r ns
matches_path (double_star ∷ []) [] = false
matches_path (double_star ∷ []) (n ∷ ns) = true
matches_path (double_star ∷ s ∷ r) path = some_rest (matches_path (s ∷ r)) path

-- whether the tokens fit the last of the names
abbrev pub fits_last_name : List TokenModel → List (List ℕ) → Bool
fits_last_name us [] = false
fits_last_name us (n ∷ []) = fits us n
fits_last_name us (n ∷ m ∷ ns) = fits_last_name us (m ∷ ns)

-- whether the one segment of a pattern fits the last segment of a path
abbrev pub fits_last : List SegmentModel → List (List ℕ) → Bool
fits_last [] path = false
fits_last (plain us ∷ []) path = fits_last_name us path
fits_last (plain us ∷ s ∷ r) path = false
fits_last (double_star ∷ r) path = false

-- whether the segments of a pattern, anchored or not, match the segments of a path
abbrev pub segments_match : Bool → List SegmentModel → List (List ℕ) → Bool
segments_match false segments path = fits_last segments path
segments_match true segments path = matches_path segments path

-- whether the pattern matches the path of a directory, or of something else: true exactly where `Matches` holds
unfoldable pub is_match : PatternModel → List ℕ → Bool → Bool
is_match p path is_dir = not p.is_dead && (not p.is_dir_only || is_dir) && segments_match p.is_anchored p.segments (segments_of path)

-- the test and the relation agree on every pattern and path
abbrev pub IsMatchDecides : Type 0
IsMatchDecides = (p : PatternModel) (path : List ℕ) (is_dir : Bool) → IsTrue (is_match p path is_dir) ↔ Matches p path is_dir

-- What a path is: the names from a directory down to one of its entries, joined by slashes.
use Rattle.std.specs.{Prelude.{ℕ, ◌==◌, Bool, true, false, not, ◌&&◌, List, [], ◌∷◌, ◌++◌, length, Option}, Borrow.Bor}
use Rattle.std.specs.List.{list_all, list_any}
use Rattle.lc_glob.specs.{Bytes.{slash, dot, nul}, Pieces.{pieces_of, pieces_left}}

-- the bytes cut at each slash: one segment more than there are slashes
abbrev pub segments_of : List ℕ → List (List ℕ)
segments_of path = pieces_of slash path

-- the segments of the bytes that are left of a path, or no segments
abbrev pub segments_left : Option (Bor (List ℕ)) → List (List ℕ)
segments_left rest = pieces_left slash rest

-- whether a name is one of those that stand for no entry: the empty one, `.` and `..`
abbrev pub is_no_name : List ℕ → Bool
is_no_name [] = true
is_no_name (b ∷ []) = b == dot
is_no_name (b ∷ c ∷ []) = (b == dot) && (c == dot)
is_no_name (b ∷ c ∷ d ∷ ds) = false

-- whether a directory can have an entry of this name: it is not empty, `.` or `..`, and it has no slash and no NUL byte
abbrev pub is_good_name : List ℕ → Bool
is_good_name name = not (is_no_name name) && not (list_any (λ b. b == slash) name) && not (list_any (λ b. b == nul) name)

-- whether a tree can have an entry of this path: each segment is a good name
abbrev pub is_good_path : List ℕ → Bool
is_good_path path = list_all is_good_name (segments_of path)

-- how many segments a path has; the empty path, that of the directory itself, has none
abbrev pub depth_of : List ℕ → ℕ
depth_of [] = 0
depth_of (b ∷ bs) = length (segments_of (b ∷ bs))

-- the path of a name in a directory
abbrev pub path_in : List ℕ → List ℕ → List ℕ
path_in [] name = name
path_in (b ∷ bs) name = b ∷ bs ++ slash ∷ name

-- the most bytes of a path
abbrev pub max_path : ℕ
max_path = 4096

-- the most segments of a directory's path
abbrev pub max_depth : ℕ
max_depth = 256

-- A line that names a path: a slash at its end means a directory.
use Rattle.std.specs.Prelude.{ℕ, ◌-◌, ◌==◌, Bool, false, not, ◌||◌, ◌&&◌, nat_eq, nat_lt, cond, if◌then◌else◌, List, [], ◌∷◌, length}
use Rattle.std.specs.{Prelude.take, List.ends_with}
use Rattle.lc_glob.specs.{Bytes.{slash, dot}, Path.{is_good_path, max_path}}

-- whether the line has a slash at its end
abbrev pub is_dir_line : List ℕ → Bool
is_dir_line line = ends_with nat_eq line (slash ∷ [])

-- the line without one slash at its end
abbrev pub path_of : List ℕ → List ℕ
path_of line = cond (is_dir_line line) (take (length line - 1) line) line

-- whether a path has over 4,096 bytes, or is no path of an entry: it has a segment that is empty, `.` or `..`, or a NUL byte
abbrev pub is_bad_path : List ℕ → Bool
is_bad_path path = nat_lt max_path (length path) || not (is_good_path path)

-- what follows a `./`: without more slashes, and without each `./` after them
abbrev pub after_dot : List ℕ → List ℕ
after_dot [] = []
after_dot (b ∷ []) = if b == slash then [] else b ∷ []
after_dot (b ∷ c ∷ cs) =
    if b == slash then after_dot (c ∷ cs) else if (b == dot) && (c == slash) then after_dot cs else b ∷ c ∷ cs

-- a path, or `.`, the directory itself, if the path is empty
abbrev pub or_dot : List ℕ → List ℕ
or_dot [] = dot ∷ []
or_dot (b ∷ bs) = b ∷ bs

-- the line without any `./` at its beginning, as `find .` prints paths with one
abbrev pub undotted : List ℕ → List ℕ
undotted [] = []
undotted (b ∷ []) = b ∷ []
undotted (b ∷ c ∷ cs) = if (b == dot) && (c == slash) then or_dot (after_dot cs) else b ∷ c ∷ cs

-- whether the path is `.`, which names the directory itself
abbrev pub is_top : List ℕ → Bool
is_top [] = false
is_top (b ∷ []) = b == dot
is_top (b ∷ c ∷ cs) = false

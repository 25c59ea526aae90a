-- The directories of files, cut after some of their names.
use Rattle.std.specs.{Prelude.{ℕ, ◌+◌, ◌-◌, suc, zero, bytes_eq, if◌then◌else◌, codes, List, [], ◌∷◌}, List.{after_last, before_last}}
use Rattle.std.specs.List.{join_with_byte, list_any}
use Rattle.lc_glob.specs.{Bytes.slash, Path.{is_no_name, segments_of}, Pieces.is_byte}

-- the directory whose path is before the last slash of a path: `/` if nothing is before the slash, and the empty path of the top directory
-- for `.`
abbrev pub directory_before : List ℕ → List ℕ
directory_before [] = slash ∷ []
directory_before (b ∷ bs) = if bytes_eq (b ∷ bs) (codes ".") then [] else b ∷ bs

-- the directory that holds a file: what is before the last slash of the file's path. For a file right in the top directory it is the empty
-- path
abbrev pub parent_of : List ℕ → List ℕ
parent_of path = if list_any (is_byte slash) path then directory_before (before_last (is_byte slash) path) else []

-- the name of a file: what is after the last slash of its path, or the whole path
abbrev pub name_of : List ℕ → List ℕ
name_of path = after_last (is_byte slash) path

-- how many names a segment counts as: the empty segment, `.` and `..` count as none
abbrev pub names_in : List ℕ → ℕ
names_in s = if is_no_name s then 0 else 1

-- the first segments up to the nth name; all segments if there are fewer names
abbrev pub to_name : ℕ → List (List ℕ) → List (List ℕ)
to_name zero ss = []
to_name (suc n) [] = []
to_name (suc n) (s ∷ ss) = s ∷ to_name (suc n - names_in s) ss

-- the segments after the nth name
abbrev pub after_name : ℕ → List (List ℕ) → List (List ℕ)
after_name zero ss = ss
after_name (suc n) [] = []
after_name (suc n) (s ∷ ss) = after_name (suc n - names_in s) ss

-- a path cut after its nth name
abbrev pub first_names : ℕ → List ℕ → List ℕ
first_names n path = join_with_byte slash (to_name n (segments_of path))

-- the directory that holds a file, cut after its nth name
abbrev pub directory_of : ℕ → List ℕ → List ℕ
directory_of n path = first_names n (parent_of path)

-- how many names segments have, where the last of them counts as one whatever it is
abbrev pub levels : List (List ℕ) → ℕ
levels [] = 0
levels (s ∷ []) = 1
levels (s ∷ t ∷ ss) = names_in s + levels (t ∷ ss)

-- how many directories are above a directory in a tree. The top directory has none, and it is above all others
abbrev pub level_of : List ℕ → ℕ
level_of [] = 0
level_of (b ∷ bs) = levels (segments_of (b ∷ bs))

-- the directory right above a directory: its path cut before the last name; `/` and `..` are right below the top directory
abbrev pub above : List ℕ → List ℕ
above directory = first_names (level_of directory - 1) directory

-- the part of a directory's path that follows the directory right above it
abbrev pub own_part : List ℕ → List ℕ
own_part directory = join_with_byte slash (after_name (level_of directory - 1) (segments_of directory))

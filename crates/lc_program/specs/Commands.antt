-- The commands that lines on standard error show, which can be typed as they are shown.
use Rattle.std.specs.Prelude.{◌&&◌, ℕ, Bool, not, cond, nat_eq, List, [], ◌∷◌, ◌++◌, Option, Some, bytes_eq, codes, flat_map}
use Rattle.std.specs.{List.starts_with, Path.{path_file_name, path_parent}}
use Rattle.lc_glob.specs.Lists.{is_empty}
use Rattle.lc_text.specs.{Quoting.quoted, Visible.visible_bytes}

-- whether a path can be typed as a terminal shows it, and is not read as an option
abbrev pub is_typed : List ℕ → Bool
is_typed path = not (is_empty path) && not (starts_with nat_eq path (codes "-")) && bytes_eq (visible_bytes path) path

-- the option `--only` with a path, as a command has it
abbrev pub only_of : List ℕ → List ℕ
only_of path = codes "--only " ++ quoted path ++ codes " "

-- the command that counts some paths of a directory, by the rules of all of the directory
abbrev pub count_of : List (List ℕ) → List ℕ → List ℕ
count_of paths directory = codes "lc count " ++ flat_map only_of paths ++ quoted directory

-- the path of a directory, or a dot if it is empty, for the directory that the program runs in
abbrev pub or_here : List ℕ → List ℕ
or_here [] = codes "."
or_here (b ∷ bs) = b ∷ bs

-- the words that show how to count the file with this name in this directory; none if the command can't be typed as it is shown
abbrev pub count_of_file : List ℕ → List ℕ → List ℕ
count_of_file name directory =
    cond (is_typed name && is_typed directory) (codes ": " ++ count_of (name ∷ []) directory ++ codes " counts one file") []

abbrev pub file_count_in : Option (List ℕ) → Option (List ℕ) → List ℕ
file_count_in (Some name) (Some directory) = count_of_file name (or_here directory)
file_count_in name directory = []

-- the words that show how to count the file at a path
abbrev pub file_count : List ℕ → List ℕ
file_count path = file_count_in (path_file_name path) (path_parent path)

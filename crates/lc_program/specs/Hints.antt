-- The hint that rules above a counted directory were not read.
use Rattle.std.specs.Prelude.{◌≡◌, ◌&&◌, ℕ, Bool, true, false, cond, List, [], ◌∷◌, ◌++◌, Option, Some, None, bytes_eq}
use Rattle.std.specs.{Prelude.{codes, string_bytes}, List.{AllZip, list_all}}
use Rattle.lc_text.specs.Visible.{visible_bytes}
use Rattle.lc_program.specs.{Commands.{count_of, is_typed}, declared.repository.Repository.Repository}

-- the paths, in the repository with this top, of the directories that lie in it
abbrev pub paths_in : List ℕ → List (Option Repository) → List (List ℕ)
paths_in top [] = []
paths_in top (None ∷ others) = paths_in top others
paths_in top (Some r ∷ others) =
    cond (bytes_eq (string_bytes r.top) top) (string_bytes r.path ∷ paths_in top others) (paths_in top others)

-- the hint with a command: a count of these paths in the repository, which reads the rules above the directory
abbrev pub hint_with_command : Repository → List (List ℕ) → List ℕ
hint_with_command r paths =
    codes "lc: rules above " ++ string_bytes r.path ++ codes " were not read; " ++ count_of paths (string_bytes r.top)
    ++ codes " reads them\n"

-- the hint without a command, where the command can't be typed as it is shown
abbrev pub hint_alone : List ℕ → List ℕ
hint_alone directory = codes "lc: rules above " ++ visible_bytes directory ++ codes " were not read\n"

-- the hint about a directory in this repository, where `paths` are those of all counted directories in it
abbrev pub hint : List ℕ → Repository → List (List ℕ) → List ℕ
hint directory r paths =
    cond (list_all is_typed paths && is_typed (string_bytes r.top)) (hint_with_command r paths) (hint_alone directory)

-- the first directory that lies in a repository, and that repository
abbrev pub first_above : List (List ℕ) → List (Option Repository) → Option (List ℕ × Repository)
first_above [] repositories = None
first_above (directory ∷ directories) [] = None
first_above (directory ∷ directories) (None ∷ repositories) = first_above directories repositories
first_above (directory ∷ directories) (Some r ∷ repositories) = Some (directory, r)

-- the hint about the first directory that lies in a repository; nothing if there is no such directory. `all` are the repositories of all
-- directories
abbrev pub hint_of : List (Option Repository) → Option (List ℕ × Repository) → List ℕ
hint_of all None = []
hint_of all (Some (directory, r)) = hint directory r (paths_in (string_bytes r.top) all)

-- a text is what standard error gets about the directories of a count: if it is a terminal, the hint about them, by the repositories that
-- the system may say they lie in; else nothing
abbrev pub IsHintFor : (List ℕ → Option Repository → Type 0) → Bool → List (List ℕ) → List ℕ → Type 0
IsHintFor may_lie true directories text =
    (above : List (Option Repository)) × AllZip may_lie directories above × (text ≡ hint_of above (first_above directories above))
IsHintFor may_lie false directories text = text ≡ []

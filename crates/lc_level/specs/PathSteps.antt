-- Tests of the paths of `--only`, step by step.
use Rattle.std.specs.{Prelude.{ℕ, ◌==◌, Bool, ◌&&◌, not, cond, List, [], ◌∷◌, ◌++◌, get_or, take, bytes_eq}, List.{filter, list_any}}
use Rattle.std.specs.Ordering.{is_lt}
use Rattle.lc_glob.specs.{Bytes.slash, Lists.is_empty}
use Rattle.lc_level.specs.Narrowing.{leads_to}
use Rattle.lc_tree.specs.{ByteOrder.bytes_cmp, Listing.EntryModel}

-- whether a path sorts before all paths below a directory; every path but the empty one is below the top
abbrev pub comes_before : List ℕ → List ℕ → Bool
comes_before directory path = cond (is_empty directory) (is_empty path) (is_lt (bytes_cmp path (directory ++ slash ∷ [])))

-- whether a byte of a directory's path is a slash, and the path before it is one of these paths
abbrev pub is_cut_among : List (List ℕ) → List ℕ → ℕ → Bool
is_cut_among paths directory at = (get_or directory at 0 == slash) && list_any (bytes_eq (take at directory)) paths

-- whether one of these entries leads to a path
abbrev pub is_led_to : List EntryModel → List ℕ → Bool
is_led_to entries rest = list_any (λ e. leads_to e rest) entries

-- the paths to which none of these entries leads
abbrev pub unled : List EntryModel → List (List ℕ) → List (List ℕ)
unled entries rests = filter (λ rest. not (is_led_to entries rest)) rests

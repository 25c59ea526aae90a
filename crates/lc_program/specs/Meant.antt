-- The lines about patterns of `--include` that may mean something else, where no file is counted.
use Rattle.std.specs.Prelude.{◌&&◌, ℕ, Bool, false, not, nat_eq, cond, if◌then◌else◌, List, [], ◌∷◌, ◌++◌, flat_map}
use Rattle.std.specs.{Prelude.codes, Char.is_ascii_alphanumeric, List.{list_all, list_any}}
use Rattle.lc_glob.specs.{Lists.is_empty, Pieces.is_byte}

-- whether a pattern is a dot and letters or digits, at least one
abbrev pub is_extension : List ℕ → Bool
is_extension [] = false
is_extension (b ∷ bs) = nat_eq b 46 && (not (is_empty bs) && list_all is_ascii_alphanumeric bs)

-- whether a pattern has braces and a comma
abbrev pub has_braces : List ℕ → Bool
has_braces pattern = list_any (is_byte 123) pattern && (list_any (is_byte 44) pattern && list_any (is_byte 125) pattern)

abbrev pub extension_line : List ℕ → List ℕ
extension_line pattern =
    codes "lc: for files with the extension " ++ pattern ++ codes " use --include '*" ++ pattern ++ codes "'\n"

-- the line about a pattern that may mean something else; else nothing
abbrev pub meant_line : List ℕ → List ℕ
meant_line pattern =
    if is_extension pattern then extension_line pattern
    else if has_braces pattern then codes "lc: braces in a pattern stand for themselves: repeat --include\n"
    else []

abbrev pub meant_lines : List (List ℕ) → List ℕ
meant_lines patterns = flat_map meant_line patterns

-- the lines about the patterns of a count with this number of files: none if a file is counted
abbrev pub meant_if : ℕ → List (List ℕ) → List ℕ
meant_if files patterns = cond (nat_eq files 0) (meant_lines patterns) []

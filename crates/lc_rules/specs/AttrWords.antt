-- The words of an attribute line: gitattributes(5), DESCRIPTION.
use Rattle.std.specs.Prelude.{◌≡◌, ℕ, Bool, false, not, ◌==◌, ◌&&◌, ◌||◌, nat_lt, nat_le, if◌then◌else◌, List, [], ◌∷◌, ◌++◌, length}
use Rattle.std.specs.{Prelude.{filter, Option, Some, None}, List.{slice_split, list_all, before_first, after_first, position_or_len}}
use Rattle.lc_glob.specs.{Bytes.{exclamation_mark, hyphen}, Pieces.is_byte}
use Rattle.lc_rules.specs.{Bytes.{space, tab, carriage_return, equals_sign}, Attributes.{StateModel, set, unset, value, unspecified}}
use Rattle.lc_rules.specs.Attributes.{AssignmentModel}

-- white space
abbrev pub is_white : ℕ → Bool
is_white b = b == space || b == tab || b == carriage_return

-- whether a piece between white space is a word: it isn't empty
abbrev pub is_some_word : List ℕ → Bool
is_some_word word = nat_lt 0 (length word)

-- the words between white space
abbrev pub words : List ℕ → List (List ℕ)
words bytes = filter is_some_word (slice_split is_white bytes)

-- whether a byte may be in a name: ASCII letters and digits, and `-`, `.` and `_`
abbrev pub is_name_byte : ℕ → Bool
is_name_byte b = nat_le 65 b && nat_le b 90 || nat_le 97 b && nat_le b 122 || nat_le 48 b && nat_le b 57 || b == 45 || b == 46 || b == 95

-- whether an attribute or a macro can have this name: it has one or more such bytes, of which a hyphen isn't the first
abbrev pub is_name : List ℕ → Bool
is_name [] = false
is_name (b ∷ bs) = not (b == hyphen) && list_all is_name_byte (b ∷ bs)

-- these bytes stand at the end of others
abbrev pub IsEndOf : List ℕ → List ℕ → Type 0
IsEndOf rest whole = (front : List ℕ) × (whole ≡ front ++ rest)

-- the assignment of a state to a name, if an attribute can have the name
abbrev pub named : List ℕ → StateModel → Option AssignmentModel
named name state = if is_name name then Some (name, state) else None

-- the assignment of a word of the form `name=value`, whose value is all that follows the first equals sign, or `name`
abbrev pub plain_assign : List ℕ → Option AssignmentModel
plain_assign w =
    if nat_lt (position_or_len (is_byte equals_sign) w) (length w) then named (before_first (is_byte equals_sign) w)
    (value (after_first (is_byte equals_sign) w))
    else named w set

-- the assignment of a word: `-name` unsets, `!name` makes unspecified, and a value after either has no effect
abbrev pub assign : List ℕ → Option AssignmentModel
assign [] = None
assign (b ∷ bs) =
    if b == hyphen then named (before_first (is_byte equals_sign) bs) unset
    else if b == exclamation_mark then named (before_first (is_byte equals_sign) bs) unspecified
    else plain_assign (b ∷ bs)

-- a list of assignments with one more at its front; none if one of the two is missing
abbrev pub both : Option AssignmentModel → Option (List AssignmentModel) → Option (List AssignmentModel)
both None others = None
both (Some a) None = None
both (Some a) (Some others) = Some (a ∷ others)

-- the assignments of all words, in order; none where one word is no assignment
abbrev pub assigns : List (List ℕ) → Option (List AssignmentModel)
assigns [] = Some []
assigns (w ∷ ws) = both (assign w) (assigns ws)

-- The tokens of a pattern, and what each stands for: gitignore(5), PATTERN FORMAT.
use Rattle.std.specs.{Prelude.{ℕ, Bool, true, false, not, ◌&&◌, ◌==◌, nat_le, List}, List.list_any}
use Rattle.lc_glob.specs.Bytes.{slash}

-- a literal byte, `?`, `*`, or a bracket; a bracket stands for one byte in its ranges or, if it is negated, for one byte in none of them
pub data TokenModel : Type 0 where
  literal : ℕ → TokenModel
  any_byte : TokenModel
  star : TokenModel
  class : Bool → List (ℕ × ℕ) → TokenModel

-- whether a byte is in one of the ranges, whose ends belong to them
abbrev pub in_ranges : List (ℕ × ℕ) → ℕ → Bool
in_ranges ranges b = list_any (λ r. nat_le r.0 b && nat_le b r.1) ranges

-- whether a bracket has a byte, by whether the bracket is negated, and whether the byte is in its ranges
abbrev pub in_set : Bool → Bool → Bool
in_set false member = member
in_set true member = not member

-- whether a token is a star, which alone may stand for no byte and for several
abbrev pub is_star : TokenModel → Bool
is_star star = true
is_star _ = false

-- whether a token that is no star stands for this byte; neither `?` nor a bracket stands for a slash
abbrev pub takes : TokenModel → ℕ → Bool
takes (literal c) b = c == b
takes any_byte b = not (b == slash)
takes star b = false
takes (class negated ranges) b = not (b == slash) && in_set negated (in_ranges ranges b)

-- Where a text has no JSON object.
use Rattle.std.specs.Prelude.{◌≡◌, ◌==◌, ◌⊎◌, ◌+◌, ◌-◌, ◌^◌, ℕ, min, Bool, false, not, List, length, take, slice_get, MatchOption, Option, Some, None}
use Rattle.std.specs.{Bool.MatchBool, List.position}
use Rattle.std.specs.Str.{IsUtf8, Lossy.utf8_valid_len}
use Rattle.json.specs.Word.{is_space}
use Rattle.lc_reading.specs.declared.read_fault.ReadFault.{ReadFault}
use Rattle.lc_reading.specs.declared.read_fault.NoReport.TheVariants as why
use Rattle.lc_reading.specs.declared.read_fault.ReadFault.TheVariants as fault

-- the error that there is no object at this byte of a text, which is at `start` of the input
abbrev pub no_object : ℕ → ℕ → ReadFault
no_object start at = fault.NoReport (why.NoObject (min (start + at) (2 ^ 64 - 1)))

abbrev pub first_byte : List ℕ → Option ℕ
first_byte text = position (λ b. not (is_space b)) text

abbrev pub is_brace : Option ℕ → Bool
is_brace None = false
is_brace (Some b) = b == 123

-- the error is at the end of the text, or where UTF-8 ends in a beginning of the text that is not UTF-8
abbrev pub IsUnended : List ℕ → ℕ → ReadFault → Type 0
IsUnended text start f =
    (f ≡ no_object start (length text))
    ⊎ ((n : ℕ) × (f ≡ no_object start (utf8_valid_len (take n text))) × (IsUtf8 (take n text) → ⊥))

-- a text with another first byte than a brace has no object there; white space is no first byte
abbrev pub HasNoObject : List ℕ → ℕ → ReadFault → Type 0
HasNoObject text start f = MatchOption (first_byte text) (f ≡ no_object start 0) (λ first.
    MatchBool (is_brace (slice_get text first)) (IsUnended text start f) (f ≡ no_object start first))

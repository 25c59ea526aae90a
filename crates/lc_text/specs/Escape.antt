-- How bytes of a path are printed.
use Rattle.std.specs.{Prelude.{ℕ, ◌+◌, ◌/◌, ◌%◌, ◌||◌, Bool, not, ◌&&◌, nat_lt, nat_eq, cond, List, [], ◌∷◌, ◌++◌, codes}, List.flat_map}
use Rattle.lc_glob.specs.Bytes.{backslash}

-- a lower-case hexadecimal digit
abbrev pub hex_digit : ℕ → ℕ
hex_digit n = cond (nat_lt n 10) (48 + n) (87 + n)

-- the bytes from 0 to 31, and 127
abbrev pub is_control : ℕ → Bool
is_control b = nat_lt b 32 || nat_eq b 127

-- a byte that is printed as it is
abbrev pub is_plain : ℕ → Bool
is_plain b = not (nat_eq b backslash) && not (is_control b)

-- a backslash, `x` and two digits
abbrev pub hex_byte : ℕ → List ℕ
hex_byte b = codes "\\x" ++ hex_digit (b / 16) ∷ hex_digit (b % 16) ∷ []

-- two backslashes for one; the digits of a control byte; every other byte as it is
abbrev pub escape_byte : ℕ → List ℕ
escape_byte b = cond (nat_eq b backslash) (codes "\\\\") (cond (is_control b) (hex_byte b) (b ∷ []))

-- each byte in turn
abbrev pub escape_bytes : List ℕ → List ℕ
escape_bytes bytes = flat_map escape_byte bytes

-- a path as it is printed; the empty one, the top's, is a dot
abbrev pub escape_path : List ℕ → List ℕ
escape_path [] = codes "."
escape_path (b ∷ bs) = escape_bytes (b ∷ bs)

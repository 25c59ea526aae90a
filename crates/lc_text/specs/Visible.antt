-- How bytes of a path are shown in a terminal: no character of them is a control, a separator of lines or a control of text's direction.
use Rattle.std.specs.Prelude.{ℕ, ◌||◌, ◌&&◌, ◌==◌, Bool, nat_lt, nat_eq, cond, if◌then◌else◌, List, [], ◌∷◌, codes, flat_map, encode_utf8}
use Rattle.std.specs.{Int.is_in_range, Str.{chars, is_utf8}}
use Rattle.lc_glob.specs.Bytes.{backslash}
use Rattle.lc_text.specs.Escape.{is_control, is_plain, hex_byte, escape_byte}

-- the control characters C0, delete and C1, the separators of lines and of paragraphs, and the controls of bidirectional text
-- (UAX #9, 2)
abbrev pub is_hidden : ℕ → Bool
is_hidden c =
    is_control c || (is_in_range 0x80 0x9F c || ((c == 0x61C) || (is_in_range 0x200E 0x200F c
    || (is_in_range 0x2028 0x202E c || is_in_range 0x2066 0x2069 c))))

-- two backslashes for one; the digits of each byte of a hidden character; every other character as it is
abbrev pub visible_char : ℕ → List ℕ
visible_char c =
    cond (nat_eq c backslash) (codes "\\\\")
    (cond (is_hidden c) (flat_map hex_byte (encode_utf8 c))
    (encode_utf8 c))

-- a byte of bytes that are not UTF-8: as `escape_byte` writes it below 128, otherwise its digits
abbrev pub visible_byte : ℕ → List ℕ
visible_byte b = cond (nat_lt b 128) (escape_byte b) (hex_byte b)

-- the characters of a text, or else the bytes, in turn
abbrev pub visible_bytes : List ℕ → List ℕ
visible_bytes bytes = if is_utf8 bytes then flat_map visible_char (chars bytes) else flat_map visible_byte bytes

-- a path as it is shown; the empty one, the top's, is a dot
abbrev pub visible_path : List ℕ → List ℕ
visible_path [] = codes "."
visible_path (b ∷ bs) = visible_bytes (b ∷ bs)

-- a byte of ASCII that is shown as it is
abbrev pub is_clear : ℕ → Bool
is_clear b = nat_lt b 128 && is_plain b

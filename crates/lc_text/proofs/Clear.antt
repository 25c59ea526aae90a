-- Bytes that a terminal is shown as they are, and which of both readings of bytes holds.
use Rattle.std.proofs.Common.{◌≡◌, ℕ, ◌<◌, true, if◌then◌else◌, nat_lt, nat_eq, List, [], ◌∷◌, ◌++◌, refl, ap, ap₂, ◌∙◌, chars, flat_map}
use Rattle.std.proofs.lemmas.Bool.{and_parts, not-true, ltb-true, agree_below_at, false_from_ne_true}
use Rattle.std.proofs.lemmas.Str.{chars-IsAscii, encode_ascii, IsUtf8-from_is_utf8, is_utf8-from_IsUtf8, Ascii.{IsAscii-nil, IsAscii-cons}}
use Rattle.std.specs.{List.list_all, Str.{IsUtf8, IsAscii, is_utf8}}
use Rattle.lc_glob.specs.Bytes.{backslash}
use Rattle.lc_text.specs.{Escape.{is_control, is_plain}, Visible.{is_clear, is_hidden, visible_byte, visible_bytes, visible_char}}

clear_char : (b : ℕ) → is_clear b ≡ true → visible_char b ≡ b ∷ []
clear_char b e =
    let parts = and_parts (nat_lt b 128) (is_plain b) e in
    let plain = and_parts _ _ parts.1 in
    let low : b < 128 = ltb-true b 128 parts.0 in
    rw (not-true (nat_eq b backslash) plain.0, agree_below_at is_hidden is_control 128 b refl low, not-true (is_control b) plain.1)
    (encode_ascii b low)

clear_bytes : (bytes : List ℕ) → list_all is_clear bytes ≡ true → flat_map visible_char bytes ≡ bytes
clear_bytes [] e = refl
clear_bytes (b ∷ bs) e =
    let parts = and_parts (is_clear b) (list_all is_clear bs) e in
    ap₂ (λ x y. x ++ y) (clear_char b parts.0) (clear_bytes bs parts.1)

clear_ascii : (bytes : List ℕ) → list_all is_clear bytes ≡ true → IsAscii bytes
clear_ascii [] e = IsAscii-nil
clear_ascii (b ∷ bs) e =
    let parts = and_parts (is_clear b) (list_all is_clear bs) e in
    IsAscii-cons b bs (ltb-true b 128 (and_parts (nat_lt b 128) (is_plain b) parts.0).0) (clear_ascii bs parts.1)

-- printable ASCII without a backslash is shown as it is
pub visible_char-clear : (bytes : List ℕ) → list_all is_clear bytes ≡ true → flat_map visible_char (chars bytes) ≡ bytes
visible_char-clear bytes e =
    ap (flat_map visible_char) (chars-IsAscii bytes (clear_ascii bytes e)) ∙ clear_bytes bytes e

-- bytes that are a text are shown by their characters
pub visible_bytes-text : (bytes : List ℕ) → IsUtf8 bytes → visible_bytes bytes ≡ flat_map visible_char (chars bytes)
visible_bytes-text bytes is =
    ap (λ b. if b then flat_map visible_char (chars bytes) else flat_map visible_byte bytes) (is_utf8-from_IsUtf8 bytes is)

-- and others byte by byte
pub visible_bytes-other : (bytes : List ℕ) → ¬ (IsUtf8 bytes) → visible_bytes bytes ≡ flat_map visible_byte bytes
visible_bytes-other bytes none =
    ap (λ b. if b then flat_map visible_char (chars bytes) else flat_map visible_byte bytes)
    (false_from_ne_true (is_utf8 bytes) (λ e. none (IsUtf8-from_is_utf8 bytes e)))

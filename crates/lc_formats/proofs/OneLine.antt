-- Texts without a line feed, and texts that are UTF-8.
use Rattle.std.proofs.{lemmas.{Grind.common_steps, Bool.{and_parts, and_from, or_left, lt-ltb, ltb-true, ne_eqb, Decides.nat_tests}}}
use Rattle.std.proofs.{lemmas.List.{Elements.{All-cons, All-head, All-nil, All-tail}, Folds.list_all-append}}
use Rattle.std.proofs.{lemmas.Str.{IsUtf8-append, IsUtf8-nil, IsUtf8-encode, IsUtf8-from_is_utf8, scalars-chars, inside_one}, Common.◌≡◌}
use Rattle.std.proofs.{Common.{ℕ, zero, suc, ◌/◌, ◌%◌, ◌<◌, Bool, true, false, not, ◌==◌, ◌&&◌, ◌||◌, nat_lt, nat_eq, if◌then◌else◌, List}}
use Rattle.std.proofs.{Common.{[], ◌∷◌, ◌++◌, length, get_or, codes, decimal, encode_utf8, flat_map, refl, sym, ap, ap₂, ◌∙◌, arith, inl}}
use Rattle.std.proofs.{Common.{inr, append-nil}}
use Rattle.std.specs.{List.{All, list_all}, Fmt.{digit_glyph, digits, digits_onto}, Str.{IsUtf8, chars, is_utf8, all_scalars}}
use lib.{Utf8.{encode, scalar, scalar_cases}}
use Rattle.json.proofs.{Printed.Utf8.{are_ascii, IsUtf8-are_ascii}}
use Rattle.lc_glob.specs.Bytes.{backslash}
use Rattle.lc_formats.specs.{CellWords.{comma, with_commas}}
use Rattle.lc_text.specs.{Escape.{hex_byte, hex_digit, is_control, escape_byte}, Visible.{is_hidden, visible_byte, visible_bytes}}
use Rattle.lc_text.specs.Visible.{visible_char}

abbrev pub is_no_feed : ℕ → Bool
is_no_feed b = not (b == 10)

-- no line feed is in a text
abbrev pub is_one_line : List ℕ → Bool
is_one_line text = list_all is_no_feed text

-- texts that are on one line are joined on one line
pub one_line-append : (a b : List ℕ) → is_one_line a ≡ true → is_one_line b ≡ true → is_one_line (a ++ b) ≡ true
one_line-append a b x y = list_all-append is_no_feed a b ∙ ap₂ (λ p q. p && q) x y

one_line_each : {X : Type 0} (f : X → List ℕ) → ((x : X) → is_one_line (f x) ≡ true) → (xs : List X) → is_one_line (flat_map f xs) ≡ true
one_line_each f each [] = refl
one_line_each f each (x ∷ xs) = one_line-append (f x) (flat_map f xs) (each x) (one_line_each f each xs)

no_feed : (b : ℕ) → (b ≡ 10 → ⊥) → is_no_feed b ≡ true
no_feed b other = ap not (ne_eqb b 10 other)

-- what holds of each byte that passes holds of each that passes more
pub all_weaker : (p q : ℕ → Bool) → ((x : ℕ) → p x ≡ true → q x ≡ true) → (xs : List ℕ) → list_all p xs ≡ true → list_all q xs ≡ true
all_weaker p q more [] e = refl
all_weaker p q more (x ∷ xs) e =
    let parts = and_parts (p x) (list_all p xs) e in and_from _ _ (more x parts.0) (all_weaker p q more xs parts.1)

-- a text of bytes that are ASCII and no line feeds
pub low_text : (p : ℕ → Bool) → ((b : ℕ) → p b ≡ true → (is_no_feed b ≡ true) × (nat_lt b 128 ≡ true)) → (t : List ℕ)
    → list_all p t ≡ true → (is_one_line t ≡ true) × (are_ascii t ≡ true)
low_text p low [] e = (refl, refl)
low_text p low (b ∷ bs) e =
    let parts = and_parts (p b) (list_all p bs) e in
    let here = low b parts.0 in
    let rest = low_text p low bs parts.1 in
    (and_from _ _ here.0 rest.0, and_from _ _ here.1 rest.1)

without_each : (b : ℕ) (l : List ℕ) → ((k : ℕ) → k < length l → get_or l k 0 ≡ b → ⊥) → list_all (λ x. not (x == b)) l ≡ true
without_each b [] h = refl
without_each b (x ∷ l) h =
    and_from _ _ (ap not (ne_eqb x b (h 0 (omega arith)))) (without_each b l (λ k below. h (suc k) (omega arith)))

-- an encoded character has no byte of ASCII but its own
pub encode_without : (b c : ℕ) → b < 128 → (c ≡ b → ⊥) → list_all (λ x. not (x == b)) (encode_utf8 c) ≡ true
encode_without b c low other = without_each b (encode_utf8 c) at
  where
    at : (k : ℕ) → k < length (encode_utf8 c) → get_or (encode_utf8 c) k 0 ≡ b → ⊥
    at k below e = other (inside_one c [] (encode_utf8 c) k (sym (append-nil _)) below (omega (arith, e, low)) ∙ e)

-- ---- characters and bytes as a terminal shows them

no_feed_digit : (n : ℕ) → is_no_feed (hex_digit n) ≡ true
no_feed_digit n = grind (arith, nat_tests)

one_line_hex : (b : ℕ) → is_one_line (hex_byte b) ≡ true
one_line_hex b = and_from _ _ (no_feed_digit (b / 16)) (and_from _ _ (no_feed_digit (b % 16)) refl)

-- an encoded character other than a line feed is in one line
pub one_line-encode : (c : ℕ) → (c ≡ 10 → ⊥) → is_one_line (encode_utf8 c) ≡ true
one_line-encode c other = encode_without 10 c (omega arith) other

one_line_char : (c : ℕ) → is_one_line (visible_char c) ≡ true
one_line_char c = grind (arith, common_steps, one_line_each, one_line_hex, one_line-encode)

one_line_escape : (b : ℕ) → is_one_line (escape_byte b) ≡ true
one_line_escape b = grind (arith, common_steps, one_line_hex, and_from, no_feed)

one_line_byte : (b : ℕ) → is_one_line (visible_byte b) ≡ true
one_line_byte b = grind (arith, common_steps, one_line_escape, one_line_hex)

-- bytes as a terminal shows them are in one line
pub one_line-visible : (bytes : List ℕ) → is_one_line (visible_bytes bytes) ≡ true
one_line-visible bytes = grind (arith, common_steps, one_line_each, one_line_char, one_line_byte)

-- ---- the same bytes are UTF-8

utf8_each : {X : Type 0} (f : X → List ℕ) (P : X → Type 0) → ((x : X) → P x → IsUtf8 (f x)) → (xs : List X) → All P xs
    → IsUtf8 (flat_map f xs)
utf8_each f P each [] all = IsUtf8-nil
utf8_each f P each (x ∷ xs) all =
    IsUtf8-append (f x) (flat_map f xs) (each x (All-head P x xs all)) (utf8_each f P each xs (All-tail P x xs all))

ascii_digit : (n : ℕ) → n < 16 → nat_lt (hex_digit n) 128 ≡ true
ascii_digit n small = grind (arith, nat_tests)

utf8_hex : (b : ℕ) → b < 256 → IsUtf8 (hex_byte b)
utf8_hex b small =
    IsUtf8-are_ascii (hex_byte b)
    (and_from _ _ (ascii_digit (b / 16) (omega arith)) (and_from _ _ (ascii_digit (b % 16) (omega arith)) refl))

bytes_of : (c : ℕ) → scalar c ≡ true → list_all (λ b. nat_lt b 256) (encode c) ≡ true
unfolding encode
bytes_of c is = elim (scalar_cases c is) [ inl low ↦ grind (arith, nat_tests) | inr high ↦ grind (arith, nat_tests) ]

-- bytes by a test
pub small_bytes : (bs : List ℕ) → list_all (λ b. nat_lt b 256) bs ≡ true → All (λ b. b < 256) bs
small_bytes bs e = grind (arith, common_steps, and_parts, ltb-true)

utf8_char : (c : ℕ) → scalar c ≡ true → IsUtf8 (visible_char c)
utf8_char c is = at (nat_eq c backslash) (is_hidden c) refl refl
  where
    at : (q h : Bool) → nat_eq c backslash ≡ q → is_hidden c ≡ h → IsUtf8 (visible_char c)
    at true h x y = rw x (IsUtf8-are_ascii (codes "\\\\") refl)
    at false true x y = rw (x, y) (utf8_each hex_byte (λ b. b < 256) utf8_hex (encode c) (small_bytes (encode c) (bytes_of c is)))
    at false false x y = rw (x, y) (IsUtf8-encode c is)

utf8_escape : (b : ℕ) → b < 128 → IsUtf8 (escape_byte b)
utf8_escape b low = at (nat_eq b backslash) (is_control b) refl refl
  where
    at : (q h : Bool) → nat_eq b backslash ≡ q → is_control b ≡ h → IsUtf8 (escape_byte b)
    at true h x y = rw x (IsUtf8-are_ascii (codes "\\\\") refl)
    at false true x y = rw (x, y) (utf8_hex b (omega arith))
    at false false x y = rw (x, y) (IsUtf8-are_ascii (b ∷ []) (and_from _ _ (lt-ltb b 128 low) refl))

utf8_byte : (b : ℕ) → b < 256 → IsUtf8 (visible_byte b)
utf8_byte b small = at (nat_lt b 128) refl
  where
    at : (low : Bool) → nat_lt b 128 ≡ low → IsUtf8 (visible_byte b)
    at true e = rw e (utf8_escape b (ltb-true b 128 e))
    at false e = rw e (utf8_hex b small)

scalars_all : (cs : List ℕ) → all_scalars cs ≡ true → All (λ c. scalar c ≡ true) cs
scalars_all [] e = All-nil (λ c. scalar c ≡ true)
scalars_all (c ∷ cs) e =
    let parts = and_parts _ _ e in All-cons (λ c. scalar c ≡ true) c cs parts.0 (scalars_all cs parts.1)

-- bytes as a terminal shows them are UTF-8
pub utf8-visible : (bytes : List ℕ) → All (λ b. b < 256) bytes → IsUtf8 (visible_bytes bytes)
utf8-visible bytes small = at (is_utf8 bytes) refl
  where
    at : (b : Bool) → is_utf8 bytes ≡ b → IsUtf8 (if b then flat_map visible_char (chars bytes) else flat_map visible_byte bytes)
    at true e =
        utf8_each visible_char (λ c. scalar c ≡ true) utf8_char (chars bytes)
        (scalars_all (chars bytes) (scalars-chars bytes (IsUtf8-from_is_utf8 bytes e)))
    at false e = utf8_each visible_byte (λ b. b < 256) utf8_byte bytes small

-- ---- numbers

abbrev is_digit : ℕ → Bool
is_digit d = nat_lt 47 d && nat_lt d 58

either_list : (p : ℕ → Bool) (b : Bool) (xs ys : List ℕ) → list_all p xs ≡ true → list_all p ys ≡ true
    → list_all p (if b then xs else ys) ≡ true
either_list p b xs ys x y = grind (arith, common_steps)

digits_all : (k n : ℕ) (acc : List ℕ) → list_all is_digit acc ≡ true → list_all is_digit (digits_onto k 10 false n acc) ≡ true
digits_all zero n acc all = all
digits_all (suc k) n acc all =
    let small : n % 10 < 10 = omega arith in
    let next : list_all is_digit (digit_glyph false (n % 10) ∷ acc) ≡ true = and_from _ _ (grind (arith, nat_tests)) all in
    either_list is_digit (n / 10 == 0) _ _ next (digits_all k (n / 10) (digit_glyph false (n % 10) ∷ acc) next)

decimal_digits : (n : ℕ) → list_all is_digit (decimal n) ≡ true
unfolding digits
decimal_digits n = digits_all 64 n [] refl

-- digits and commas
abbrev pub is_numeral : ℕ → Bool
is_numeral d = is_digit d || (d == 44)

numeral_commas : (ds : List ℕ) → list_all is_digit ds ≡ true → list_all is_numeral (with_commas ds) ≡ true
numeral_commas [] e = refl
numeral_commas (d ∷ ds) e =
    let parts = and_parts (is_digit d) (list_all is_digit ds) e in
    let comma_is = either_list is_numeral (nat_lt 0 (length ds) && (length ds % 3 == 0)) (codes ",") [] refl refl in
    and_from _ _ (or_left (is_digit d) (d == 44) parts.0)
    (list_all-append is_numeral (comma ds) (with_commas ds) ∙ and_from _ _ comma_is (numeral_commas ds parts.1))

numeral_byte : (d : ℕ) → is_numeral d ≡ true → (is_no_feed d ≡ true) × (nat_lt d 128 ≡ true)
numeral_byte d e = (grind (arith, nat_tests), grind (arith, nat_tests))

-- a number has digits and commas
pub numerals : (n : ℕ) → list_all is_numeral (with_commas (decimal n)) ≡ true
numerals n = numeral_commas (decimal n) (decimal_digits n)

-- a number is in one line, and UTF-8
pub one_line-number : (n : ℕ) → (is_one_line (with_commas (decimal n)) ≡ true) × IsUtf8 (with_commas (decimal n))
one_line-number n =
    let both = low_text is_numeral numeral_byte (with_commas (decimal n)) (numerals n) in
    (both.0, IsUtf8-are_ascii (with_commas (decimal n)) both.1)

-- and so is one without commas
pub one_line-decimal : (n : ℕ) → (is_one_line (decimal n) ≡ true) × IsUtf8 (decimal n)
one_line-decimal n =
    let digits_are = all_weaker is_digit is_numeral (λ d e. or_left (is_digit d) (d == 44) e) (decimal n) (decimal_digits n) in
    let both = low_text is_numeral numeral_byte (decimal n) digits_are in
    (both.0, IsUtf8-are_ascii (decimal n) both.1)

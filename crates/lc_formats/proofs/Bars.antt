-- Bars: what holds of them, and how long they are.
use Rattle.std.proofs.{lemmas.{Grind.common_steps, Bool.{eqb-true, eqb-false}}}
use Rattle.std.proofs.{lemmas.Str.{IsUtf8-append, IsUtf8-encode, IsUtf8-nil, chars-append, chars-encodes, chars-nil}, Common.{◌≡◌, ◌<◌}}
use Rattle.std.proofs.{Common.{◌≤◌, ◌+◌, ◌/◌, ℕ, zero, suc, true, ◌==◌, if◌then◌else◌, List, [], ◌∷◌, ◌++◌, length, encode_utf8, refl, sym}}
use Rattle.std.proofs.{Common.{ap, ◌∙◌, arith, append-nil, length-append}}
use Rattle.std.specs.{Str.{IsUtf8, chars}}
use lib.{Utf8.{encodes, low_scalar, scalar, scalars}}
use Rattle.lc_formats.specs.{Shares.{bar, blocks, last_block}}

-- what holds of nothing, of joined texts and of each character of a bar holds of the bar
module _ (P : List ℕ → Type 0) (nothing : P []) (joined : (a b : List ℕ) → P a → P b → P (a ++ b))
    (each : (c : ℕ) → 0x2588 ≤ c → c ≤ 0x2590 → P (encode_utf8 c)) where
  pub of_blocks : (n : ℕ) → P (blocks n)
  of_blocks zero = nothing
  of_blocks (suc n) = joined (encode_utf8 0x2588) (blocks n) (each 0x2588 (omega arith) (omega arith)) (of_blocks n)

  pub of_bar : (eighths : ℕ) → P (bar eighths)
  of_bar eighths = grind (arith, common_steps, of_blocks)

utf8_blocks : (n : ℕ) → IsUtf8 (blocks n)
utf8_blocks n = of_blocks IsUtf8 IsUtf8-nil IsUtf8-append (λ c low high. IsUtf8-encode c (low_scalar c (omega (arith, high)))) n

-- ---- its length

one_scalar : (c : ℕ) → scalar c ≡ true → scalars (c ∷ []) ≡ true
one_scalar c is = rw is refl

one_encoded : (c : ℕ) → encodes (c ∷ []) ≡ encode_utf8 c
one_encoded c = append-nil (encode_utf8 c)

one_char : (c : ℕ) → c < 55296 → length (chars (encode_utf8 c)) ≡ 1
one_char c low =
    ap (λ (bs : List ℕ). length (chars bs)) (sym (one_encoded c))
    ∙ ap length (chars-encodes (c ∷ []) (one_scalar c (low_scalar c low)))

length_joined : (a b : List ℕ) → IsUtf8 a → length (chars (a ++ b)) ≡ length (chars a) + length (chars b)
length_joined a b is = ap length (chars-append a b is) ∙ length-append (chars a) (chars b)

length_blocks : (n : ℕ) → length (chars (blocks n)) ≡ n
length_blocks zero = ap length chars-nil
length_blocks (suc n) =
    let block = one_char 0x2588 (omega arith) in
    let rest = length_blocks n in
    length_joined (encode_utf8 0x2588) (blocks n) (IsUtf8-encode 0x2588 (low_scalar 0x2588 (omega arith))) ∙ omega arith

length_last : (e : ℕ) → length (chars (last_block e)) ≡ (if e == 0 then 0 else 1)
length_last e = grind (arith, common_steps, chars-nil, one_char)

-- as many characters as cells are filled or begun
pub length_bar : (eighths : ℕ) → length (chars (bar eighths)) ≡ (eighths + 7) / 8
length_bar eighths = grind (arith, common_steps, length_joined, utf8_blocks, length_blocks, length_last, eqb-true, eqb-false)

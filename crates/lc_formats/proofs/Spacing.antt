-- The width of a text with spaces: a space takes one column, whatever is before it and after it.
use Rattle.std.proofs.{lemmas.{Grind.common_steps, List.length-replicate, Bool.and_from}}
use Rattle.std.proofs.{lemmas.Str.{chars-append, chars-IsAscii, chars-nil, IsUtf8-append, IsUtf8-nil}, Common.{◌≡◌, ℕ, zero, suc, ◌+◌, ◌<◌}}
use Rattle.std.proofs.{Common.{Bool, true, false, List, [], ◌∷◌, ◌++◌, replicate, refl, sym, ap, ◌∙◌, arith}}
use Rattle.std.specs.{List.list_all, Str.{IsAscii, IsUtf8, chars}}
use Rattle.json.proofs.Printed.Utf8.{IsUtf8-are_ascii}
use Rattle.lc_formats.proofs.{OneLine.{is_no_feed, is_one_line}}
use Rattle.unicode_width.specs.{declared.state.State.State, Width.{is_emoji_variation_base, Reading, plain, step, past_emoji, read_before}}
use Rattle.unicode_width.specs.Width.{str_width}
use Rattle.unicode_width.proofs.{Computing.unicode_width, Rules.{is_simple, str_width-append_simple, str_width-printable}}
use Rattle.lc_formats.specs.{Columns.{width_of, spaces}}

no_emoji_base : is_emoji_variation_base 32 ≡ false
unfolding unicode_width
no_emoji_base = refl

-- a space reads nothing of the state after it, and leaves none
step_space : (total : ℕ) (s : State) → step false 32 (total, s) ≡ (total + 1, plain)
unfolding step past_emoji
step_space total s = grind (arith, common_steps, no_emoji_base)

read_spaces : (n : ℕ) → read_before false (spaces n) (0, plain) ≡ (n, plain)
read_spaces zero = refl
read_spaces (suc n) = ap (step false 32) (read_spaces n) ∙ step_space n plain ∙ ap (λ m. (m, plain)) (omega arith)

-- what holds of a byte holds of its copies
pub copies_pass : (p : ℕ → Bool) (c : ℕ) → p c ≡ true → (n : ℕ) → list_all p (replicate n c) ≡ true
copies_pass p c is zero = refl
copies_pass p c is (suc n) = and_from _ _ is (copies_pass p c is n)

ascii_copies : (c n : ℕ) → c < 128 → IsAscii (replicate n c)
ascii_copies c n low = grind (arith, common_steps)

read_before-append : (xs ys : List ℕ) (r : Reading) → read_before false (xs ++ ys) r ≡ read_before false xs (read_before false ys r)
read_before-append [] ys r = refl
read_before-append (x ∷ xs) ys r = ap (step false x) (read_before-append xs ys r)

width_spaces : (n : ℕ) → str_width false (spaces n) ≡ n
unfolding str_width
width_spaces n = ap (λ r. r.0) (read_spaces n)

after_spaces : (xs : List ℕ) (n : ℕ) → str_width false (xs ++ spaces n) ≡ str_width false xs + n
after_spaces xs n = grind (arith, common_steps, str_width-append_simple, copies_pass, is_simple, width_spaces)

-- what a space and more reads as is what as many spaces do
space_and : (ys : List ℕ) → read_before false (32 ∷ ys) (0, plain) ≡ read_before false (spaces (str_width false ys + 1)) (0, plain)
unfolding str_width
space_and ys = grind (arith, common_steps, step_space, read_spaces)

around_space : (xs ys : List ℕ) → str_width false (xs ++ 32 ∷ ys) ≡ str_width false xs + (str_width false ys + 1)
unfolding str_width
around_space xs ys =
    ap (λ r. r.0) (read_before-append xs (32 ∷ ys) (0, plain) ∙ ap (read_before false xs) (space_and ys)
    ∙ sym (read_before-append xs (spaces (str_width false ys + 1)) (0, plain)))
    ∙ after_spaces xs (str_width false ys + 1)

chars_space : (bs : List ℕ) → chars (32 ∷ bs) ≡ 32 ∷ chars bs
unfolding chars
chars_space bs = grind (arith, common_steps)

-- a space between texts
pub width_of-space : (a b : List ℕ) → IsUtf8 a → width_of (a ++ 32 ∷ b) ≡ width_of a + (1 + width_of b)
width_of-space a b is = grind (arith, common_steps, chars-append, chars_space, around_space)

-- spaces are UTF-8
pub utf8_spaces : (n : ℕ) → IsUtf8 (spaces n)
utf8_spaces zero = IsUtf8-nil
utf8_spaces (suc n) = IsUtf8-append (32 ∷ []) (spaces n) (IsUtf8-are_ascii (32 ∷ []) refl) (utf8_spaces n)

-- spaces after a text
pub width_of-after : (t : List ℕ) (n : ℕ) → IsUtf8 t → width_of (t ++ spaces n) ≡ width_of t + n
width_of-after t n is = grind (arith, common_steps, chars-append, chars-IsAscii, ascii_copies, after_spaces)

-- nothing has no width
pub width_of-nil : width_of [] ≡ 0
unfolding str_width
width_of-nil = ap (str_width false) chars-nil

-- a space before a text
pub width_of-next : (t : List ℕ) → width_of (32 ∷ t) ≡ 1 + width_of t
width_of-next t = width_of-space [] t IsUtf8-nil ∙ omega (arith, width_of-nil)

-- spaces before a text
pub width_of-before : (n : ℕ) (t : List ℕ) → width_of (spaces n ++ t) ≡ n + width_of t
width_of-before zero t = omega arith
width_of-before (suc n) t = width_of-next (spaces n ++ t) ∙ ap (λ m. 1 + m) (width_of-before n t) ∙ omega arith

-- spaces are on one line
pub one_line_spaces : (n : ℕ) → is_one_line (spaces n) ≡ true
one_line_spaces n = copies_pass is_no_feed 32 refl n

-- a hyphen is one column wide
pub width_of-hyphens : (n : ℕ) → width_of (replicate n 45) ≡ n
width_of-hyphens n = grind (arith, common_steps, chars-IsAscii, ascii_copies, str_width-printable, copies_pass, length-replicate)

-- hyphens are UTF-8
pub utf8_hyphens : (n : ℕ) → IsUtf8 (replicate n 45)
utf8_hyphens zero = IsUtf8-nil
utf8_hyphens (suc n) = IsUtf8-append (45 ∷ []) (replicate n 45) (IsUtf8-are_ascii (45 ∷ []) refl) (utf8_hyphens n)

-- hyphens are on one line
pub one_line_hyphens : (n : ℕ) → is_one_line (replicate n 45) ≡ true
one_line_hyphens n = copies_pass is_no_feed 45 refl n

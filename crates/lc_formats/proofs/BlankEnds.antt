-- Texts without the blanks at their ends.
use Rattle.std.proofs.{lemmas.{Grind.common_steps, Bool.{and_parts, and_from, not-true, Decides.nat_tests}, List.Folds.list_all-append}}
use Rattle.std.proofs.{Common.{◌≡◌, ℕ, zero, suc, ◌/◌, ◌%◌, Bool, true, false, not, ◌==◌, ◌&&◌, if◌then◌else◌, List, [], ◌∷◌, ◌++◌}}
use Rattle.std.proofs.{Common.{decimal, refl, ap, ap₂, ◌∙◌, arith, append_assoc}}
use Rattle.std.specs.{Fmt.{digit_glyph, digits, digits_onto}, List.list_all}
use Rattle.lc_formats.specs.{Blanks.{char_before, ends_in_blank, without_blanks}, CellWords.{change_word, growth_word, with_commas}}
use Rattle.lc_formats.specs.{Columns.{has_text, spaces}, Shares.{bar, share_word}}
use Rattle.lc_formats.proofs.{Bars.of_bar, OneLine.{all_weaker, encode_without, is_no_feed, is_numeral, is_one_line, numerals}}

-- whether there is nothing
abbrev pub is_none : {X : Type 0} → List X → Bool
is_none [] = true
is_none (x ∷ xs) = false

-- what ends a text ends it with any text before it, too
pub ends-append : (a b : List ℕ) → (b ≡ [] → ⊥) → ends_in_blank (a ++ b) ≡ ends_in_blank b
ends-append [] b some = refl
ends-append (c ∷ []) [] some = absurd (some refl)
ends-append (c ∷ []) (d ∷ ds) some = refl
ends-append (c ∷ e ∷ es) b some = ends-append (e ∷ es) b some

-- a text that ends in no blank has none to lose
pub without_none : (t : List ℕ) → ends_in_blank t ≡ false → without_blanks t ≡ t
without_none [] e = refl
without_none (c ∷ []) e = ap (λ b. if b then [] else c ∷ []) e
without_none (c ∷ d ∷ ds) e = ap (char_before c) (without_none (d ∷ ds) e)

ends_alone : (b : Bool) (c : ℕ) → (c == 32) ≡ b → ends_in_blank (if b then [] else c ∷ []) ≡ false
ends_alone b c h = grind (arith, common_steps)

ends_before : (c : ℕ) (rest : List ℕ) → ends_in_blank rest ≡ false → ends_in_blank (char_before c rest) ≡ false
ends_before c rest e = grind (arith, common_steps, ends_alone)

-- without its blanks a text ends in none
pub ends_without : (t : List ℕ) → ends_in_blank (without_blanks t) ≡ false
ends_without [] = refl
ends_without (c ∷ cs) = ends_before c (without_blanks cs) (ends_without cs)

-- blanks at the end
pub drop_end : (a b : List ℕ) → without_blanks b ≡ [] → without_blanks (a ++ b) ≡ without_blanks a
drop_end [] b none = none
drop_end (c ∷ a) b none = ap (char_before c) (drop_end a b none)

pub blank_spaces : (n : ℕ) → without_blanks (spaces n) ≡ []
blank_spaces zero = refl
blank_spaces (suc n) = ap (char_before 32) (blank_spaces n)

-- more than blanks at the end
pub keep_end : (a b : List ℕ) (c : ℕ) (cs : List ℕ) → without_blanks b ≡ c ∷ cs → without_blanks (a ++ b) ≡ a ++ (c ∷ cs)
keep_end [] b c cs is = is
keep_end (d ∷ []) b c cs is = ap (char_before d) is
keep_end (d ∷ e ∷ es) b c cs is = ap (char_before d) (keep_end (e ∷ es) b c cs is)

-- something after a text
pub some_after : {X : Type 0} (xs : List X) (y : X) (ys : List X) → is_none (xs ++ y ∷ ys) ≡ false
some_after [] y ys = refl
some_after (x ∷ xs) y ys = refl

one_line_alone : (b : Bool) (c : ℕ) → is_no_feed c ≡ true → is_one_line (if b then [] else c ∷ []) ≡ true
one_line_alone b c e = grind (arith, common_steps, and_from)

one_line_before : (c : ℕ) (rest : List ℕ) → is_no_feed c ≡ true → is_one_line rest ≡ true → is_one_line (char_before c rest) ≡ true
one_line_before c rest e all = grind (arith, common_steps, one_line_alone, and_from)

-- it is on one line still
pub one_line_without : (t : List ℕ) → is_one_line t ≡ true → is_one_line (without_blanks t) ≡ true
one_line_without [] e = refl
one_line_without (c ∷ cs) e =
    let parts = and_parts (is_no_feed c) (is_one_line cs) e in
    one_line_before c (without_blanks cs) parts.0 (one_line_without cs parts.1)

-- ---- texts without a blank

abbrev no_blank : ℕ → Bool
no_blank b = not (b == 32)

ends_none : (t : List ℕ) → list_all no_blank t ≡ true → ends_in_blank t ≡ false
ends_none [] all = refl
ends_none (c ∷ []) all = not-true (c == 32) (and_parts (no_blank c) true all).0
ends_none (c ∷ d ∷ ds) all = ends_none (d ∷ ds) (and_parts (no_blank c) (list_all no_blank (d ∷ ds)) all).1

none_both : (a b : List ℕ) → list_all no_blank a ≡ true → list_all no_blank b ≡ true → list_all no_blank (a ++ b) ≡ true
none_both a b x y = list_all-append no_blank a b ∙ ap₂ (λ p q. p && q) x y

no_blank_digit : (d : ℕ) → is_numeral d ≡ true → no_blank d ≡ true
no_blank_digit d e = grind (arith, nat_tests)

-- a number ends in no blank
pub ends_number : (n : ℕ) → ends_in_blank (with_commas (decimal n)) ≡ false
ends_number n = ends_none (with_commas (decimal n))
    (all_weaker is_numeral no_blank no_blank_digit (with_commas (decimal n)) (numerals n))

text_chosen : (b : Bool) (d : ℕ) (ds ts : List ℕ) → has_text ts ≡ true → has_text (if b then d ∷ ds else ts) ≡ true
text_chosen b d ds ts e = grind (arith, common_steps)

text_onto : (k n d : ℕ) (ds : List ℕ) → has_text (digits_onto k 10 false n (d ∷ ds)) ≡ true
text_onto zero n d ds = refl
text_onto (suc k) n d ds =
    let x = digit_glyph false (n % 10) in
    text_chosen (n / 10 == 0) x (d ∷ ds) (digits_onto k 10 false (n / 10) (x ∷ d ∷ ds)) (text_onto k (n / 10) x (d ∷ ds))

text_decimal : (n : ℕ) → has_text (decimal n) ≡ true
unfolding digits
text_decimal n = grind (arith, common_steps, text_chosen, text_onto)

text_commas : (ds : List ℕ) → has_text ds ≡ true → has_text (with_commas ds) ≡ true
text_commas ds e = grind (arith, common_steps)

-- a number has a text
pub shown_number : (n : ℕ) → has_text (with_commas (decimal n)) ≡ true
shown_number n = text_commas (decimal n) (text_decimal n)

some_text : (t : List ℕ) → has_text t ≡ true → t ≡ [] → ⊥
some_text t is none = grind (arith, common_steps)

-- a change ends with its number
pub ends_change : (old new : ℕ) → ends_in_blank (change_word old new) ≡ false
ends_change old new = grind (arith, common_steps, ends-append, some_text, shown_number, ends_number)

-- a share ends with its sign
pub ends_share : (tenths : ℕ) → ends_in_blank (share_word tenths) ≡ false
ends_share tenths = grind (arith, common_steps, ends-append)

-- and so does a change in per cent, if it has one
pub ends_growth : (old new : ℕ) → ends_in_blank (growth_word old new) ≡ false
ends_growth old new = grind (arith, common_steps, append_assoc, ends-append)

-- a bar ends in no blank
pub ends_bar : (eighths : ℕ) → ends_in_blank (bar eighths) ≡ false
ends_bar eighths =
    ends_none (bar eighths) (of_bar (λ t. list_all no_blank t ≡ true) refl none_both
    (λ c low high. encode_without 32 c (omega arith) (λ e. omega (arith, e, low))) eighths)

-- Strings, numbers and literals of JSON that end before a text does read the same with another text after it.
use Rattle.std.proofs.Common.{arith, ◌≡◌, ◌∙◌, ℕ, Bool, true, false, ◌&&◌, ◌||◌, ◌==◌, cond, List, [], ◌∷◌, ◌++◌, length, take, drop}
use Rattle.std.proofs.Common.{nat_lt, Option, Some, None, option_map, option_and_then, refl, sym, ap, subst, append_assoc}
use Rattle.std.proofs.{Common.take-append-drop, lemmas.{Grind.common_steps, Bool.and_parts, Slice.Eq.bytes_eq-Decides}}
use Rattle.std.specs.{Prelude.⊤, List.prefix_len, Char.is_ascii_digit}
use Rattle.json.specs.{Align.is_good, Lex.{Lexeme, token, between, in_word, lex}, Print.IsNumber, Text.{Within, plain, after_backslash}}
use Rattle.json.specs.{Text.{after_u, after_high, code_unit, content, is_high_surrogate, is_low_surrogate, short_escape}, Token.Token}
use Rattle.json.specs.{Token.{boolean, null, number, bad}, Word.{after_digits, after_exponent, after_fraction, after_minus, after_number}}
use Rattle.json.specs.Word.{after_sign, ends_word, head, literal, number_before, word}
use Rattle.json.proofs.Printed.Numbers.{in_word-ended, lex-number, number_alone}

-- ---- strings

-- what the first is, the second is
record More (o p : Option (List ℕ)) : Type 0 where
  more : (s : List ℕ) → o ≡ Some s → p ≡ Some s

more_none : (p : Option (List ℕ)) → More None p
more_none p = record { more = λ s e. absurd (cc) }

more_same : (o : Option (List ℕ)) → More o o
more_same o = record { more = λ s e. e }

more_cond : (b : Bool) {o p u v : Option (List ℕ)} → More o p → More u v → More (cond b o u) (cond b p v)
more_cond b first second = grind (arith, common_steps)

more_map : (f : List ℕ → List ℕ) (o p : Option (List ℕ)) → More o p → More (option_map f o) (option_map f p)
more_map f o p m = grind (arith, common_steps, more_none)

more_then : {A : Type 0} (o : Option A) {f g : A → Option (List ℕ)} → ((a : A) → More (f a) (g a))
    → More (option_and_then f o) (option_and_then g o)
more_then o each = grind (arith, common_steps, more_none)

content_more : (w : Within) (xs ys : List ℕ) → More (content w xs) (content w (xs ++ ys))
unfolding content
content_more plain (x ∷ xs) ys =
    more_cond (x == 34) (more_same _) (more_cond (x == 92) (content_more after_backslash xs ys)
    (more_cond (nat_lt x 32) (more_same _) (more_map _ _ _ (content_more plain xs ys))))
content_more after_backslash (x ∷ xs) ys =
    more_cond (x == 117) (content_more after_u xs ys) (more_then (short_escape x) (λ c. more_map _ _ _ (content_more plain xs ys)))
content_more after_u (a ∷ b ∷ c ∷ d ∷ xs) ys =
    more_then (code_unit a b c d) (λ u. more_cond (is_high_surrogate u) (content_more (after_high u) xs ys)
    (more_cond (is_low_surrogate u) (more_same _) (more_map _ _ _ (content_more plain xs ys))))
content_more (after_high h) (s ∷ u ∷ a ∷ b ∷ c ∷ d ∷ xs) ys =
    more_cond ((s == 92) && (u == 117)) (more_then (code_unit a b c d) (λ l. more_cond (is_low_surrogate l)
    (more_map _ _ _ (content_more plain xs ys)) (more_same _))) (more_same _)
content_more w xs ys = more_none _

-- a string that is closed has the same content
pub same_content : (xs ys s : List ℕ) → content plain xs ≡ Some s → content plain (xs ++ ys) ≡ Some s
same_content xs ys s e = (content_more plain xs ys).more s e

-- ---- words

-- a text that ends with another
abbrev EndsWith : List ℕ → List ℕ → Type 0
EndsWith t rest = (front : List ℕ) × (t ≡ front ++ rest)

ends_dropped : (n : ℕ) (t : List ℕ) → EndsWith t (drop n t)
ends_dropped n t = (take n t, sym (take-append-drop n t))

-- what is left ends the text, where something is left
abbrev Leaves : List ℕ → Option (List ℕ) → Type 0
Leaves t None = ⊤
Leaves t (Some rest) = EndsWith t rest

leaves_further : (t r : List ℕ) (o : Option (List ℕ)) → EndsWith t r → Leaves r o → Leaves t o
leaves_further t r None a b = tt
leaves_further t r (Some q) a b = (a.0 ++ b.0, a.1 ∙ ap (λ (l : List ℕ). a.0 ++ l) b.1 ∙ sym (append_assoc a.0 b.0 q))

leaves_cond : (t : List ℕ) (b : Bool) (o p : Option (List ℕ)) → Leaves t o → Leaves t p → Leaves t (cond b o p)
leaves_cond t b o p first second = grind (arith, common_steps)

one_dropped : (t : List ℕ) (b : Bool) → EndsWith t (cond b (drop 1 t) t)
one_dropped t true = ends_dropped 1 t
one_dropped t false = ([], refl)

leaves_then : (t : List ℕ) (f : List ℕ → Option (List ℕ)) (o : Option (List ℕ)) → ((r : List ℕ) → Leaves r (f r)) → Leaves t o
    → Leaves t (option_and_then f o)
leaves_then t f o each more = grind (arith, common_steps, leaves_further)

digits_leave : (t : List ℕ) → Leaves t (after_digits t)
digits_leave t = leaves_cond t (prefix_len is_ascii_digit t == 0) None _ tt (ends_dropped (prefix_len is_ascii_digit t) t)

fraction_leaves : (t : List ℕ) → Leaves t (after_fraction t)
fraction_leaves t =
    leaves_cond t (head t == 46) _ (Some t) (leaves_further t (drop 1 t) _ (ends_dropped 1 t) (digits_leave (drop 1 t))) ([], refl)

exponent_leaves : (t : List ℕ) → Leaves t (after_exponent t)
exponent_leaves t =
    let u = drop 1 t in
    leaves_cond t ((head t == 101) || (head t == 69)) _ (Some t) (leaves_further t u _ (ends_dropped 1 t)
    (leaves_further u (after_sign u) _ (one_dropped u _) (digits_leave (after_sign u)))) ([], refl)

number_leaves : (t : List ℕ) → Leaves t (after_number t)
unfolding after_number
number_leaves t =
    let u = after_minus t in
    leaves_then t after_exponent _ exponent_leaves (leaves_then t after_fraction _ fraction_leaves (leaves_further t u _ (one_dropped t _)
    (leaves_cond u (head u == 48) (Some (drop 1 u)) _ (ends_dropped 1 u) (digits_leave u))))

-- a word of this spelling is read as this token before an operator, a space or the end
abbrev IsWord : List ℕ → Token → Type 0
IsWord s w = (r : List ℕ) → ends_word r ≡ true → lex between (s ++ r) ≡ token w ∷ lex between r

-- how a text begins with a word
pub record Begins (t : List ℕ) : Type 0 where
  pub spelling : List ℕ
  pub rest : List ℕ
  pub read : Token
  pub is : t ≡ spelling ++ rest
  pub ended : ends_word rest ≡ true
  pub word_is : IsWord spelling read

passed : (b : Bool) (w : Token) → is_good (cond b w bad) ≡ true → b ≡ true
passed b w e = grind (arith, common_steps)

begins_literal : (name : List ℕ) (w : Token) (t : List ℕ) → IsWord name w → is_good (literal name w t) ≡ true → Begins t
begins_literal name w t word_is good =
    let both = and_parts _ _ (passed _ w good) in
    let front : name ≡ take (length name) t = (bytes_eq-Decides name (take (length name) t)).0 both.0 in record {
      spelling = name;
      rest = drop (length name) t;
      read = w;
      is = sym (take-append-drop (length name) t) ∙ ap (λ (l : List ℕ). l ++ drop (length name) t) (sym front);
      ended = both.1;
      word_is = word_is;
    }

begins_number : (t : List ℕ) (o : Option (List ℕ)) → after_number t ≡ o → is_good (number_before t o) ≡ true → Begins t
begins_number t None e good = absurd (cc)
begins_number t (Some rest) e good =
    let ends : EndsWith t rest = subst (Leaves t) e (number_leaves t) in
    let ended : ends_word rest ≡ true = passed (ends_word rest) _ good in
    let alone : IsNumber ends.0 =
    number_alone ends.0 rest ended (ap after_number (sym ends.1) ∙ e) in record {
      spelling = ends.0;
      rest = rest;
      read = number ends.0;
      is = ends.1;
      ended = ended;
      word_is = λ r after. lex-number ends.0 r alone after;
    }

choose : (b : Bool) (x y : Token) (P : Type 0) → (is_good x ≡ true → P) → (is_good y ≡ true → P) → is_good (cond b x y) ≡ true → P
choose b x y P f g is = grind (arith, common_steps)

-- a good word begins its text
pub begins_word : (t : List ℕ) → is_good (word t) ≡ true → Begins t
unfolding lex word
begins_word t =
    let after : (w : Token) → (r : List ℕ) → ends_word r ≡ true → token w ∷ lex in_word r ≡ token w ∷ lex between r =
    λ w r ended. ap (λ (l : List Lexeme). token w ∷ l) (in_word-ended r ended) in
    choose (head t == 116) _ _ _
    (begins_literal (116 ∷ 114 ∷ 117 ∷ 101 ∷ []) (boolean true) t (λ r ended. rw ended (after (boolean true) r ended)))
    (choose (head t == 102) _ _ _
    (begins_literal (102 ∷ 97 ∷ 108 ∷ 115 ∷ 101 ∷ []) (boolean false) t (λ r ended. rw ended (after (boolean false) r ended)))
    (choose (head t == 110) _ _ _ (begins_literal (110 ∷ 117 ∷ 108 ∷ 108 ∷ []) null t (λ r ended. rw ended (after null r ended)))
    (begins_number t (after_number t) refl)))

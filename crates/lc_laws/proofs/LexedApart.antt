-- A JSON text that ends with an object has the same tokens with another text after it.
use Rattle.std.proofs.Common.{arith, ◌≡◌, ◌∙◌, ◌==◌, ℕ, Bool, true, false, cond, List, [], ◌∷◌, ◌++◌, Option, refl, sym, ap, append_assoc}
use Rattle.std.proofs.lemmas.Grind.{common_steps}
use Rattle.json.specs.{Align.is_good, Lex.{Class, Lexeme, Mode, between, class, in_string, in_word, lex, lex_byte, other, string_token}}
use Rattle.json.specs.{Lex.token, Text.{content, plain}, Token.{Token, bad, boolean, end_object, null}, Word.{after_number, ends_word}}
use Rattle.json.specs.Word.{head, number_before, word}
use Rattle.lc_laws.proofs.WordsApart.{Begins, begins_word, same_content}

-- ---- lexemes

-- no lexeme is bad, and the last one closes an object, or there is none and one did before
abbrev pub is_closed : Bool → List Lexeme → Bool
is_closed before [] = before
is_closed before (token end_object ∷ ls) = is_closed true ls
is_closed before (token bad ∷ ls) = false
is_closed before (token t ∷ ls) = is_closed false ls
is_closed before (l ∷ ls) = is_closed before ls

-- ---- words

record WordClosed (w : Token) (ls : List Lexeme) : Type 0 where
  good : is_good w ≡ true
  closed : is_closed false ls ≡ true

-- a word is neither a bracket nor a text, so it does not close an object
abbrev Closes : Token → Type 0
Closes w = (before : Bool) (ls : List Lexeme) → is_closed before (token w ∷ ls) ≡ true → WordClosed w ls

chosen_word : (b : Bool) (v w : Token) → Closes v → Closes w → Closes (cond b v w)
chosen_word b v w first second = grind (arith, common_steps)

number_word : (t : List ℕ) (o : Option (List ℕ)) → Closes (number_before t o)
number_word t o = grind (arith, common_steps, chosen_word)

each_word : (t : List ℕ) → Closes (word t)
unfolding word
each_word t =
    let bad_word : Closes bad = λ before ls e. absurd (cc) in
    chosen_word (head t == 116) _ _
    (chosen_word _ (boolean true) bad (λ before ls e. record { good = refl; closed = e }) bad_word) (chosen_word (head t == 102) _ _
    (chosen_word _ (boolean false) bad (λ before ls e. record { good = refl; closed = e }) bad_word) (chosen_word (head t == 110) _ _
    (chosen_word _ null bad (λ before ls e. record { good = refl; closed = e }) bad_word) (number_word t (after_number t))))

lexed_other : (x : ℕ) (xs : List ℕ) → class x ≡ other → lex between (x ∷ xs) ≡ token (word (x ∷ xs)) ∷ lex in_word xs
unfolding lex
lexed_other x xs e = ap (λ c. lex_byte between c x xs (λ m. lex m xs)) e

later_end : (rest ys : List ℕ) → (rest ≡ [] → ⊥) → ends_word rest ≡ true → ends_word (rest ++ ys) ≡ true
later_end rest ys some e = grind (arith, common_steps)

-- after the last lexeme nothing is left
nothing_left : (rest : List ℕ) → rest ≡ [] → (ls : List Lexeme) → ls ≡ lex between rest → is_closed false ls ≡ true → ⊥
unfolding lex
nothing_left rest none ls lexed closed = grind (arith, common_steps)

-- a word that ends before the text does is the same with another text after it
same_word : (x : ℕ) (xs ys : List ℕ) → class x ≡ other → WordClosed (word (x ∷ xs)) (lex in_word xs)
    → word (x ∷ xs ++ ys) ≡ word (x ∷ xs)
same_word x xs ys e closed =
    let own : Begins (x ∷ xs) = begins_word (x ∷ xs) closed.good in
    let here : token (word (x ∷ xs)) ∷ lex in_word xs ≡ token own.read ∷ lex between own.rest =
    sym (lexed_other x xs e) ∙ ap (lex between) own.is ∙ own.word_is own.rest own.ended in
    let read : word (x ∷ xs) ≡ own.read = cc in
    let lexed : lex in_word xs ≡ lex between own.rest = cc in
    let some : own.rest ≡ [] → ⊥ = λ none. nothing_left own.rest none (lex in_word xs) lexed closed.closed in
    let long : x ∷ xs ++ ys ≡ own.spelling ++ (own.rest ++ ys) =
    ap (λ (l : List ℕ). l ++ ys) own.is ∙ append_assoc own.spelling own.rest ys in
    let there : token (word (x ∷ xs ++ ys)) ∷ lex in_word (xs ++ ys) ≡ token own.read ∷ lex between (own.rest ++ ys) =
    sym (lexed_other x (xs ++ ys) e) ∙ ap (lex between) long ∙ own.word_is (own.rest ++ ys) (later_end own.rest ys some own.ended) in
    cc

-- ---- texts

-- the lexemes of a text with another after it, in this mode
abbrev Apart : Mode → List ℕ → List ℕ → Type 0
Apart m xs ys =
    (before : Bool) → (before ≡ true → m ≡ between) → is_closed before (lex m xs) ≡ true
    → lex m (xs ++ ys) ≡ lex m xs ++ lex between ys

-- and so after one more byte
abbrev ApartAt : Mode → Class → ℕ → List ℕ → List ℕ → Type 0
ApartAt m c x xs ys =
    (before : Bool) → (before ≡ true → m ≡ between) → is_closed before (lex_byte m c x xs (λ n. lex n xs)) ≡ true
    → lex_byte m c x (xs ++ ys) (λ n. lex n (xs ++ ys)) ≡ lex_byte m c x xs (λ n. lex n xs) ++ lex between ys

string_apart : (o : Option (List ℕ)) (x : ℕ) (xs ys : List ℕ) → content plain xs ≡ o → Apart in_string xs ys
    → (before : Bool) → is_closed before (token (string_token o) ∷ lex in_string xs) ≡ true
    → token (string_token (content plain (xs ++ ys))) ∷ lex in_string (xs ++ ys)
    ≡ token (string_token o) ∷ lex in_string xs ++ lex between ys
string_apart o x xs ys e later before closed = grind (arith, common_steps, same_content)

byte_apart : (m : Mode) (c : Class) (x : ℕ) (xs ys : List ℕ) → class x ≡ c → ((n : Mode) → Apart n xs ys) → ApartAt m c x xs ys
byte_apart m c x xs ys e later = grind (arith, common_steps, string_apart, each_word, same_word)

pub lexed_apart : (m : Mode) (xs ys : List ℕ) → Apart m xs ys
unfolding lex
lexed_apart m [] ys before at closed = ap (λ n. lex n ys) (at closed)
lexed_apart m (x ∷ xs) ys before at closed =
    byte_apart m (class x) x xs ys refl (λ n. lexed_apart n xs ys) before at closed

-- A JSON object with another text after it: its tokens, and what is left.
use Rattle.std.proofs.{lemmas.Grind.common_steps, Common.{◌≡◌, ◌∙◌, ℕ, Bool, true, false, List, [], ◌∷◌, ◌++◌, Some, refl, sym, ap}}
use Rattle.std.proofs.Common.{append_assoc, append-nil, arith}
use Rattle.json.specs.{Json.{Items, Json, Members, array, document, item, member, no_items, no_members, object, value}, Lex.{Lexeme, Place}}
use Rattle.json.specs.Lex.{after_comma, after_key, after_value, begins_colon, between, colon, comma, fresh, lex, place_token}
use Rattle.json.specs.{Lex.{punctuate, token, tokens}, Token.{Token, bad, end_object}, Tree.{depth, items_tokens, json_tokens}}
use Rattle.json.specs.Tree.{members_tokens}
use Rattle.json.proofs.{Found.{Some_inj, one_reading}, Printed.Trees.value-json_tokens, Unique.Spelling.tokens-document}
use Rattle.lc_laws.proofs.LexedApart.{is_closed, lexed_apart}

-- no token is bad, and the last one closes an object, or there is none and one did before
abbrev pub is_ended : Bool → List Token → Bool
is_ended before [] = before
is_ended before (end_object ∷ ts) = is_ended true ts
is_ended before (bad ∷ ts) = false
is_ended before (t ∷ ts) = is_ended false ts

-- ---- the tokens of an object

abbrev is_object : Json → Bool
is_object (object ms) = true
is_object j = false

mutual
  value_ended : (j : Json) (before : Bool) (rest : List Token) → is_ended before (json_tokens j ++ rest) ≡ is_ended (is_object j) rest
  value_ended (array js) before rest = items_ended js false rest
  value_ended (object ms) before rest = members_ended ms false rest
  value_ended j before rest = refl

  items_ended : (js : Items) (before : Bool) (rest : List Token) → is_ended before (items_tokens js ++ rest) ≡ is_ended false rest
  items_ended no_items before rest = refl
  items_ended (item j js) before rest =
      ap (is_ended before) (append_assoc (json_tokens j) (items_tokens js) rest) ∙ value_ended j before (items_tokens js ++ rest)
      ∙ items_ended js (is_object j) rest

  members_ended : (ms : Members) (before : Bool) (rest : List Token) → is_ended before (members_tokens ms ++ rest) ≡ is_ended true rest
  members_ended no_members before rest = refl
  members_ended (member k j ms) before rest =
      ap (is_ended false) (append_assoc (json_tokens j) (members_tokens ms) rest) ∙ value_ended j false (members_tokens ms ++ rest)
      ∙ members_ended ms (is_object j) rest

object_ended : (ms : Members) → is_ended false (json_tokens (object ms)) ≡ true
object_ended ms =
    ap (is_ended false) (sym (append-nil (json_tokens (object ms)))) ∙ value_ended (object ms) false []

-- ---- commas and colons

-- whether the last token of an object can be before this place
abbrev pub follows : Place → Bool
follows after_value = true
follows after_comma = true
follows p = false

-- the lexemes are closed, and more of them give more tokens
pub record Placed (p : Place) (before : Bool) (ls more : List Lexeme) : Type 0 where
  pub closed : is_closed before ls ≡ true
  pub tokens_are : punctuate p (ls ++ more) ≡ punctuate p ls ++ punctuate after_value more

abbrev pub Places : List Lexeme → List Lexeme → Type 0
Places ls more =
    (p : Place) (before : Bool) → (before ≡ true → follows p ≡ true) → is_ended before (punctuate p ls) ≡ true → Placed p before ls more

not_true : {A : Type 0} → false ≡ true → A
not_true e = absurd (cc)

none_placed : (more : List Lexeme) → Places [] more
unfolding punctuate
none_placed more = grind (arith, common_steps, not_true)

punctuated : (p : Place) (t : Token) (ls : List Lexeme)
    → punctuate p (token t ∷ ls) ≡ place_token p t (begins_colon ls) (λ n. punctuate n ls)
unfolding punctuate
punctuated p t ls = grind (arith, common_steps)

-- what is placed of a token
abbrev TokenPlaced : Place → Bool → Token → List Lexeme → List Lexeme → Type 0
TokenPlaced p before t ls more =
    (is_closed before (token t ∷ ls) ≡ true)
    × (place_token p t (begins_colon (ls ++ more)) (λ n. punctuate n (ls ++ more))
    ≡ place_token p t (begins_colon ls) (λ n. punctuate n ls) ++ punctuate after_value more)

token_placed : (p : Place) (before : Bool) (t : Token) (ls more : List Lexeme) → Places ls more
    → is_ended before (place_token p t (begins_colon ls) (λ n. punctuate n ls)) ≡ true → TokenPlaced p before t ls more
unfolding punctuate
token_placed p before t ls more later ended = grind (arith, common_steps, not_true)

pub placed : (ls more : List Lexeme) → Places ls more
unfolding punctuate
placed [] more p before at ended = none_placed more p before at ended
placed (token t ∷ ls) more p before at ended =
    grind (arith, common_steps, none_placed, token_placed, punctuated, not_true, placed ls more)
placed (comma ∷ ls) more after_value before at ended =
    grind (arith, common_steps, none_placed, token_placed, punctuated, not_true, placed ls more after_comma before (λ _. refl) ended)
placed (colon ∷ ls) more after_key true at ended = not_true (at refl)
placed (colon ∷ ls) more after_key false at ended =
    grind (arith, common_steps, none_placed, token_placed, punctuated, not_true, placed ls more fresh false not_true ended)
placed ls more p before at ended = absurd (cc)

-- ---- texts

-- the tokens of an object's text are the first of a text that begins with it
pub object_first : (text more : List ℕ) (ms : Members) → document text ≡ Some (object ms)
    → tokens (text ++ more) ≡ json_tokens (object ms) ++ punctuate after_value (lex between more)
object_first text more ms is =
    let own : tokens text ≡ json_tokens (object ms) = tokens-document text (object ms) is in
    let rest = placed (lex between text) (lex between more) fresh false not_true (ap (is_ended false) own ∙ object_ended ms) in
    ap (punctuate fresh) (lexed_apart between text more false (λ _. refl) rest.closed) ∙ rest.tokens_are
    ∙ ap (λ (ts : List Token). ts ++ punctuate after_value (lex between more)) own

-- two objects at the beginning of the same tokens are one, with the same after them
pub one_object_first : (ms ns : Members) (after more : List Token) → json_tokens (object ms) ++ after ≡ json_tokens (object ns) ++ more
    → (object ms ≡ object ns) × (after ≡ more)
one_object_first ms ns after more same =
    let one = value-json_tokens (object ms) (depth (object ms)) after (omega arith) in
    let other = ap (value (depth (object ns))) same ∙ value-json_tokens (object ns) (depth (object ns)) more (omega arith) in
    let both : (object ms, after) ≡ (object ns, more) =
    Some_inj (object ms, after) (object ns, more)
    (one_reading (depth (object ms)) (depth (object ns)) (json_tokens (object ms) ++ after) (object ms, after) (object ns, more) one
    other) in
    (ap (λ (p : Json × List Token). p.0) both, ap (λ (p : Json × List Token). p.1) both)

-- where nothing is left after a value, there is no lexeme
placed_some : (p : Place) (t : Token) (b : Bool) (k : Place → List Token) → place_token p t b k ≡ [] → ⊥
placed_some p t b k e = grind (arith, common_steps)

comma_some : (ls : List Lexeme) → punctuate after_comma ls ≡ [] → ⊥
unfolding punctuate
comma_some (token t ∷ ls) e = placed_some after_comma t (begins_colon ls) _ e
comma_some ls e = cc

pub nothing_lexed : (ls : List Lexeme) → punctuate after_value ls ≡ [] → ls ≡ []
unfolding punctuate
nothing_lexed [] e = refl
nothing_lexed (token t ∷ ls) e = absurd (placed_some after_value t (begins_colon ls) _ e)
nothing_lexed (comma ∷ ls) e = absurd (comma_some ls e)
nothing_lexed (colon ∷ ls) e = absurd (cc)

-- Lists that were read value by value.
use Rattle.std.proofs.Common.{arith, ◌≡◌, ◌∙◌, ℕ, List, [], ◌∷◌, ◌++◌, refl, sym, ap, append_assoc, append-nil, Some}
use Rattle.std.proofs.lemmas.{Grind.common_steps, List.Concat.flat_map-append}
use Rattle.std.specs.List.{flat_map}
use Rattle.json.specs.{Json.{Json, array, value, after_end_array}, Token.{Token, begin_array, end_array}, Tree.{json_tokens, items_tokens}}
use Rattle.json.specs.Value.{items_of}
use Rattle.json.proofs.{Grammar.closed_array, Unique.Spelling.value-json_tokens_back}
use Rattle.lc_reading.specs.{Lists.{AreLinesOf, BeginsWith, IsLineOf, IsListOf}, Members.Member}

pub value_taken : (d : ℕ) (old new : List Token) (j : Json) → value d old ≡ Some (j, new) → old ≡ json_tokens j ++ new
value_taken d old new j e = value-json_tokens_back d old new j e

module _ {L : Type 0} (Says : List Member → L → Type 0) where
  lines_pushed : (js : List Json) (ls : List L) (j : Json) (l : L) → AreLinesOf Says js ls → IsLineOf Says j l
      → AreLinesOf Says (js ++ j ∷ []) (ls ++ l ∷ [])
  lines_pushed [] [] j l are is = (is, tt)
  lines_pushed [] (m ∷ ms) j l are is = absurd are
  lines_pushed (i ∷ is) [] j l are next = absurd are
  lines_pushed (i ∷ is) (m ∷ ms) j l are next = (are.0, lines_pushed is ms j l are.1 next)

-- the lines of some first values
pub record SoFar {L : Type 0} (Says : List Member → L → Type 0) (start now : List Token) (lines : List L) : Type 0 where
  pub values : List Json
  pub tokens_are : start ≡ flat_map json_tokens values ++ now
  pub each : AreLinesOf Says values lines

tokens_of_items : (js : List Json) → items_tokens (items_of js) ≡ flat_map json_tokens js ++ end_array ∷ []
tokens_of_items [] = refl
tokens_of_items (j ∷ js) = grind (arith, common_steps, append_assoc, tokens_of_items js)

module _ {L : Type 0} (Says : List Member → L → Type 0) where
  pub one_more : (start now new : List Token) (lines : List L) (l : L) → SoFar Says start now lines → BeginsWith (IsLineOf Says) now new l
      → SoFar Says start new (lines ++ l ∷ [])
  one_more start now new lines l far next = record {
    values = far.values ++ next.value ∷ [];
    tokens_are = far.tokens_are ∙ ap (λ (ts : List Token). flat_map json_tokens far.values ++ ts) next.tokens_are
        ∙ sym (append_assoc (flat_map json_tokens far.values) (json_tokens next.value) new)
        ∙ ap (λ (ts : List Token). (flat_map json_tokens far.values ++ ts) ++ new) (sym (append-nil (json_tokens next.value)))
        ∙ ap (λ (ts : List Token). ts ++ new) (sym (flat_map-append json_tokens far.values (next.value ∷ [])));
    each = lines_pushed Says far.values lines next.value l far.each next.is;
  }

  pub all_read : (start now new : List Token) (lines : List L) → SoFar Says start now lines → after_end_array now ≡ Some new
      → BeginsWith (IsListOf Says) (begin_array ∷ start) new lines
  all_read start now new lines far closed = record {
    value = array (items_of far.values);
    tokens_are = ap (λ (ts : List Token). begin_array ∷ ts) (far.tokens_are
        ∙ ap (λ (ts : List Token). flat_map json_tokens far.values ++ ts) (closed_array now new closed)
        ∙ sym (append_assoc (flat_map json_tokens far.values) (end_array ∷ []) new)
        ∙ ap (λ (ts : List Token). ts ++ new) (sym (tokens_of_items far.values)));
    is = record { values = far.values; array_is = refl; each = far.each };
  }

-- A JSON value of which one kind is known.
use Rattle.std.proofs.{Common.{arith, ◌≡◌, ℕ, true, List, Some}, lemmas.Grind.common_steps}
use Rattle.json.specs.{Json.{Json, null, number, string}, Find.{as_number, as_str, is_null}}

pub number_if : (j : Json) (s : List ℕ) → Some s ≡ as_number j → j ≡ number s
number_if j s e = grind (arith, common_steps)

pub text_if : (j : Json) (s : List ℕ) → Some s ≡ as_str j → j ≡ string s
text_if j s e = grind (arith, common_steps)

pub null_if : (j : Json) → true ≡ is_null j → j ≡ null
null_if j e = grind (arith, common_steps)

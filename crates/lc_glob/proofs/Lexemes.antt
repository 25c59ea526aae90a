-- The tokens of a pattern, lexeme by lexeme.
use Rattle.std.proofs.Common.{◌≡◌, ◌≢◌, ◌-◌, ℕ, Bool, cond, nat_eq, false, List, [], ◌∷◌, ◌++◌, length, map, take, drop, Option, None}
use Rattle.std.proofs.{Common.{Some, refl, sym, ◌∙◌, ap, subst}, lemmas.{Bool.ne_eqb, List.{map-append, Elements.{All-nil, All-cons}}}}
use Rattle.std.specs.List.{All, slice_split}
use Rattle.lc_glob.specs.{Brackets.bracket, TokenLists.{is_separator, tokens_model, range_tokens}, Pushes.{Pushes, kept_tokens}}
use Rattle.lc_glob.specs.{Pushes.lexeme_tokens, Reading.{LexemeModel, separator, one, as_lexeme, byte_lexeme, lexeme, parts, quoted}}
use Rattle.lc_glob.specs.{Tokens.{TokenModel, literal, any_byte, star, class}, declared.token.Token.Token}
use Rattle.lc_glob.specs.declared.token.Token.TheVariants.{Literal, AnyByte, Star, Open, Separator}
use Rattle.lc_glob.proofs.{TokenLists.{model_before, bracket_alone, ranges_inside}, Naming.{EndsIn, ends_more, ends_cut, ends_now}}
use Rattle.lc_glob.proofs.Parts.{join, parts_separator, parts_one, parts_end}

abbrev IsInside : Token → Type 0
IsInside t = is_separator t ≡ false

one_inside : (t : Token) → is_separator t ≡ false → All IsInside (t ∷ [])
one_inside t e = All-cons IsInside t [] e (All-nil IsInside)

-- what a token is kept as separates no segments
token_inside : (u : TokenModel) → All IsInside (kept_tokens u)
token_inside (literal c) = one_inside (Literal c) refl
token_inside any_byte = one_inside AnyByte refl
token_inside star = one_inside Star refl
token_inside (class negated ranges) = All-cons IsInside (Open negated) (range_tokens ranges) refl (ranges_inside ranges)

-- and stands for it after any others
token_more : (at : List Token) (u : TokenModel) → tokens_model (at ++ kept_tokens u) ≡ tokens_model at ++ u ∷ []
token_more at (literal c) = model_before at (Literal c) [] refl
token_more at any_byte = model_before at AnyByte [] refl
token_more at star = model_before at Star [] refl
token_more at (class negated ranges) =
    model_before at (Open negated) (range_tokens ranges) refl
    ∙ ap (λ (l : List TokenModel). tokens_model at ++ l) (bracket_alone negated ranges)

-- the parts that are done and the part at hand, as tokens: with those of the bytes that are left they are all parts
abbrev pub HasRead : Option (List (List TokenModel)) → List Token → List ℕ → Type 0
HasRead all tokens left = (done : List (List Token)) × (at : List Token) × EndsIn is_separator tokens done at
    × (all ≡ join (map tokens_model done) (tokens_model at) (parts 0 left))

-- one lexeme more
pub read_lexeme : (l : LexemeModel) (all : Option (List (List TokenModel))) (tokens new : List Token) (left : List ℕ) (b : ℕ)
    (bs : List ℕ) (k : ℕ)
    → new ≡ tokens ++ lexeme_tokens l → left ≡ b ∷ bs → lexeme b bs ≡ Some (l, k) → HasRead all tokens left
    → HasRead all new (take (length bs - k) (drop k bs))
read_lexeme separator all tokens new left b bs k e cons is has =
    let cut = ends_now is_separator tokens has.1 has.0 has.2 in
    let done = ap (map tokens_model) cut ∙ map-append tokens_model has.0 (has.1 ∷ []) in
    let rest = parts 0 (take (length bs - k) (drop k bs)) in (
      slice_split is_separator tokens,
      [],
      subst (λ (xs : List Token). EndsIn is_separator xs (slice_split is_separator tokens) []) (sym e)
          (ends_cut is_separator tokens Separator refl),
      parts_separator all _ _ left b bs _ k has.3 cons is refl ∙ sym (ap (λ (ps : List (List TokenModel)). join ps [] rest) done),
    )
read_lexeme (one u) all tokens new left b bs k e cons is has =
    let new_tokens = kept_tokens u in
    let rest = parts 0 (take (length bs - k) (drop k bs)) in (
      has.0,
      has.1 ++ new_tokens,
      subst (λ (xs : List Token). EndsIn is_separator xs has.0 (has.1 ++ new_tokens)) (sym e)
          (ends_more is_separator tokens new_tokens has.1 has.0 (token_inside u) has.2),
      parts_one all _ _ left b bs _ _ k has.3 cons is refl
          ∙ sym (ap (λ (us : List TokenModel). join (map tokens_model has.0) us rest) (token_more has.1 u)),
    )

-- no lexeme more
pub read_all : (all : Option (List (List TokenModel))) (tokens : List Token) (left : List ℕ) → length left ≡ 0 → HasRead all tokens left
    → all ≡ Some (map tokens_model (slice_split is_separator tokens))
read_all all tokens left none has =
    parts_end all _ _ _ left has.3 none
    (ap (map tokens_model) (ends_now is_separator tokens has.1 has.0 has.2) ∙ map-append tokens_model has.0 (has.1 ∷ []))

-- a byte that neither quotes nor opens a bracket
pub lexeme_of_byte : (b : ℕ) (bs : List ℕ) → b ≢ 92 → b ≢ 91 → lexeme b bs ≡ Some (byte_lexeme b, 0)
lexeme_of_byte b bs unquoted unopened =
    ap (λ (t : Bool). cond t (quoted bs) (cond (nat_eq b 91) (as_lexeme (bracket bs)) (Some (byte_lexeme b, 0)))) (ne_eqb b 92 unquoted)
    ∙ ap (λ (t : Bool). cond t (as_lexeme (bracket bs)) (Some (byte_lexeme b, 0))) (ne_eqb b 91 unopened)

-- a bracket that was pushed is a lexeme
pub bracket_lexeme : (found : Option (TokenModel × ℕ)) (lexeme : Option (LexemeModel × ℕ)) (old new : List Token) (taken : Option ℕ)
    → lexeme ≡ as_lexeme found → Pushes kept_tokens found old new taken → Pushes lexeme_tokens lexeme old new taken
bracket_lexeme found lexeme old new None e pushed = e ∙ ap as_lexeme pushed
bracket_lexeme found lexeme old new (Some k) e pushed = (one pushed.0, e ∙ ap as_lexeme pushed.1, pushed.2)

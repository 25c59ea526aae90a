-- Tokens as they are stored: the ranges of a bracket follow the token that opens it.
use Rattle.std.specs.Prelude.{ℕ, Bool, true, false, List, [], ◌∷◌, map}
use Rattle.lc_glob.specs.{Tokens.{TokenModel, literal, any_byte, star, class}, declared.token.Token.Token}
use Rattle.lc_glob.specs.declared.token.Token.TheVariants.{Literal, AnyByte, Star, Open, Range, Separator}

-- the ranges at the beginning of the tokens
abbrev pub ranges_first : List Token → List (ℕ × ℕ)
ranges_first [] = []
ranges_first (Range first last ∷ ts) = (first, last) ∷ ranges_first ts
ranges_first (_ ∷ ts) = []

-- what tokens between two separators stand for: a bracket takes the ranges that follow it, which stand for nothing by themselves
abbrev pub tokens_model : List Token → List TokenModel
tokens_model [] = []
tokens_model (Literal c ∷ ts) = literal c ∷ tokens_model ts
tokens_model (AnyByte ∷ ts) = any_byte ∷ tokens_model ts
tokens_model (Star ∷ ts) = star ∷ tokens_model ts
tokens_model (Open negated ∷ ts) = class negated (ranges_first ts) ∷ tokens_model ts
tokens_model (Range first last ∷ ts) = tokens_model ts
tokens_model (Separator ∷ ts) = tokens_model ts

-- whether a token is a separator
abbrev pub is_separator : Token → Bool
is_separator Separator = true
is_separator _ = false

-- whether a token stands for one byte
abbrev pub is_for_byte : Token → Bool
is_for_byte Star = false
is_for_byte (Range first last) = false
is_for_byte Separator = false
is_for_byte _ = true

-- literals as tokens, and ranges as tokens
abbrev pub literal_tokens : List ℕ → List Token
literal_tokens bytes = map Literal bytes

abbrev pub range_tokens : List (ℕ × ℕ) → List Token
range_tokens ranges = map (λ r. Range r.0 r.1) ranges

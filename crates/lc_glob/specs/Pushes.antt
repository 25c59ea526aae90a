-- The stored tokens of what a pattern's bytes are read as.
use Rattle.std.specs.Prelude.{ℕ, ◌≡◌, List, [], ◌∷◌, ◌++◌, Option, Some, None}
use Rattle.lc_glob.specs.{TokenLists.range_tokens, Reading.{LexemeModel, separator, one}, Tokens.{TokenModel, literal, any_byte, star}}
use Rattle.lc_glob.specs.{Tokens.class, declared.token.Token.{Token, TheVariants.{Literal, AnyByte, Star, Open, Separator}}}

-- the stored tokens of one token of a segment
abbrev pub kept_tokens : TokenModel → List Token
kept_tokens (literal c) = Literal c ∷ []
kept_tokens any_byte = AnyByte ∷ []
kept_tokens star = Star ∷ []
kept_tokens (class negated ranges) = Open negated ∷ range_tokens ranges

-- the stored tokens of a separator, or of one token of a segment
abbrev pub lexeme_tokens : LexemeModel → List Token
lexeme_tokens separator = Separator ∷ []
lexeme_tokens (one token) = kept_tokens token

module _ {A : Type 0} (tokens_of : A → List Token) where
  -- the stored tokens of what was found are pushed, and k is the number of its bytes; None if nothing was found
  abbrev pub Pushes : Option (A × ℕ) → List Token → List Token → Option ℕ → Type 0
  Pushes found old new None = found ≡ None
  Pushes found old new (Some k) = (x : A) × (found ≡ Some (x, k)) × (new ≡ old ++ tokens_of x)

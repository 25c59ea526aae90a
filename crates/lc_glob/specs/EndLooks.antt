-- What one byte at an end of a path shows of the elements of a pattern.
use Rattle.std.specs.Prelude.{ℕ, ◌⊎◌, Bool, List, None}
use Rattle.lc_glob.specs.{ByteTests.{StripsFirst, StripsLast}, Elements.{EndsWithLiteral, BeginsWithLiteral}, Tokens.{TokenModel, literal}}

module _ {A : Type 0} (tokens_in : List A → List TokenModel) (separates : A → Bool) where
  -- the elements have a literal at an end
  abbrev pub HasLiteralEnd : List A → Type 0
  HasLiteralEnd elements = ((b : ℕ) × EndsWithLiteral tokens_in separates elements b)
      ⊎ ((b : ℕ) × BeginsWithLiteral tokens_in separates elements b)

  -- the elements have a literal at an end, and it doesn't stand for the byte at this end of a path
  abbrev pub DiffersAtEnd : List A → List ℕ → List ℕ → Type 0
  DiffersAtEnd elements first last = ((b : ℕ) × EndsWithLiteral tokens_in separates elements b × StripsLast (literal b) last None)
      ⊎ ((b : ℕ) × BeginsWithLiteral tokens_in separates elements b × StripsFirst (literal b) first None)

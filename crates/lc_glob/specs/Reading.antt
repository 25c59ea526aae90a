-- How bytes are read as a pattern: gitignore(5), PATTERN FORMAT.
use Rattle.std.specs.Prelude.{ℕ, zero, suc, Bool, false, ◌&&◌, ◌||◌, ◌==◌, nat_lt, if◌then◌else◌, List, [], ◌∷◌, length, map, Option, Some}
use Rattle.std.specs.Prelude.{None}
use Rattle.lc_glob.specs.{Lists.is_empty, Bytes.{slash, backslash, asterisk, question_mark, opening}}
use Rattle.lc_glob.specs.Tokens.{TokenModel, literal, any_byte, star, is_star}
use Rattle.lc_glob.specs.{Patterns.{SegmentModel, plain, double_star, PatternModel, dead}, Brackets.bracket}

-- what the bytes are read as, one after the other: a separator, or a token of a segment
pub data LexemeModel : Type 0 where
  separator : LexemeModel
  one : TokenModel → LexemeModel

-- the lexeme of a byte that means itself; a slash separates, quoted or not
abbrev pub literal_lexeme : ℕ → LexemeModel
literal_lexeme b = if b == slash then separator else one (literal b)

-- the lexeme of the byte after a backslash, and the number 1 of its bytes; None if no byte follows
abbrev pub quoted : List ℕ → Option (LexemeModel × ℕ)
quoted [] = None
quoted (c ∷ cs) = Some (literal_lexeme c, 1)

-- the lexeme of a bracket that was found, and the number of its bytes
abbrev pub as_lexeme : Option (TokenModel × ℕ) → Option (LexemeModel × ℕ)
as_lexeme None = None
as_lexeme (Some u) = Some (one u.0, u.1)

-- the lexeme of a byte that neither quotes nor opens a bracket
abbrev pub byte_lexeme : ℕ → LexemeModel
byte_lexeme b = if b == asterisk then one star else if b == question_mark then one any_byte else literal_lexeme b

-- the lexeme that begins with the byte b, and how many of the bytes after b it takes
abbrev pub lexeme : ℕ → List ℕ → Option (LexemeModel × ℕ)
lexeme b bs = if b == backslash then quoted bs else if b == opening then as_lexeme (bracket bs) else Some (byte_lexeme b, 0)

-- the parts with one more lexeme in front: a separator begins a new part, and a token becomes the first of the first part
abbrev pub put : LexemeModel → Option (List (List TokenModel)) → Option (List (List TokenModel))
put t None = None
put t (Some []) = None
put separator (Some (p ∷ ps)) = Some ([] ∷ p ∷ ps)
put (one u) (Some (p ∷ ps)) = Some ((u ∷ p) ∷ ps)

-- the parts with the lexeme that was found in front of the parts of the bytes after it
abbrev pub put_on : Option (LexemeModel × ℕ) → (ℕ → Option (List (List TokenModel))) → Option (List (List TokenModel))
put_on None next = None
put_on (Some t) next = put t.0 (next t.1)

-- the tokens of the parts that separators cut the bytes into, without the first k bytes; None where the pattern is dead
abbrev pub parts : ℕ → List ℕ → Option (List (List TokenModel))
parts k [] = Some ([] ∷ [])
parts (suc k) (b ∷ bs) = parts k bs
parts zero (b ∷ bs) = put_on (lexeme b bs) (λ k. parts k bs)

-- whether the last lexeme is a separator: there are parts before it, and the one after it is empty
abbrev pub ends_empty : List (List TokenModel) → Bool
ends_empty [] = false
ends_empty (p ∷ []) = false
ends_empty (p ∷ q ∷ []) = is_empty q
ends_empty (p ∷ q ∷ r ∷ ps) = ends_empty (q ∷ r ∷ ps)

-- the parts without the last one, and so without the separator in front of it
abbrev pub without_last : List (List TokenModel) → List (List TokenModel)
without_last [] = []
without_last (p ∷ []) = []
without_last (p ∷ q ∷ ps) = p ∷ without_last (q ∷ ps)

-- whether the first lexeme is a separator: there are parts after it, and the one before it is empty
abbrev pub begins_empty : List (List TokenModel) → Bool
begins_empty [] = false
begins_empty (p ∷ []) = false
begins_empty (p ∷ q ∷ ps) = is_empty p

-- the parts without the first one, and so without the separator after it
abbrev pub without_first : List (List TokenModel) → List (List TokenModel)
without_first [] = []
without_first (p ∷ ps) = ps

-- whether a part is empty, which makes the pattern dead
abbrev pub some_empty : List (List TokenModel) → Bool
some_empty [] = false
some_empty (p ∷ ps) = is_empty p || some_empty ps

-- whether a part is two stars and nothing else
abbrev pub is_double_star : List TokenModel → Bool
is_double_star [] = false
is_double_star (u ∷ []) = false
is_double_star (u ∷ v ∷ []) = is_star u && is_star v
is_double_star (u ∷ v ∷ w ∷ us) = false

-- the segment of a part: in an anchored pattern two stars alone are a double star
abbrev pub segment_from : Bool → List TokenModel → SegmentModel
segment_from anchored tokens = if anchored && is_double_star tokens then double_star else plain tokens

-- the pattern of parts without a separator at either end
abbrev pub live : Bool → Bool → List (List TokenModel) → PatternModel
live dir_only anchored ps =
    if some_empty ps then dead
    else record { is_dead = false; is_dir_only = dir_only; is_anchored = anchored; segments = map (segment_from anchored) ps }

-- the pattern of parts without a separator at the end: one at the front anchors it, and so do two parts or more
abbrev pub cut_at_front : Bool → List (List TokenModel) → PatternModel
cut_at_front dir_only ps =
    live dir_only (begins_empty ps || nat_lt 1 (length ps)) (if begins_empty ps then without_first ps else ps)

-- the pattern of all the parts: a separator at the end makes it one for directories
abbrev pub pattern_from : Option (List (List TokenModel)) → PatternModel
pattern_from None = dead
pattern_from (Some ps) = cut_at_front (ends_empty ps) (if ends_empty ps then without_last ps else ps)

-- the pattern that the bytes are read as
abbrev pub pattern_of : List ℕ → PatternModel
pattern_of bytes = pattern_from (parts 0 bytes)

-- Simple patterns: each byte is a token or a separator, since none is quoted and none opens a bracket.
use Rattle.std.specs.{Prelude.{ℕ, Bool, true, not, ◌&&◌, ◌||◌, ◌==◌, if◌then◌else◌, List, [], ◌∷◌, map}, List.list_all}
use Rattle.lc_glob.specs.{Bytes.{slash, backslash, asterisk, question_mark, opening}, Tokens.{TokenModel, literal, any_byte, star}}
use Rattle.lc_glob.specs.{Patterns.{SegmentModel, plain, double_star}, Path.segments_of, Reading.{is_double_star, segment_from}}

-- whether a byte neither quotes nor opens a bracket
abbrev pub is_simple : ℕ → Bool
is_simple b = not (b == backslash) && not (b == opening)

-- the token of a byte of a simple pattern, if the byte is not a separator
abbrev pub byte_token : ℕ → TokenModel
byte_token b = if b == asterisk then star else if b == question_mark then any_byte else literal b

-- whether the token of a byte is a literal
abbrev pub is_literal : ℕ → Bool
is_literal b = not (b == asterisk) && not (b == question_mark)

-- whether the token of a byte is a literal, and the byte separates no segments
abbrev pub is_segment_literal : ℕ → Bool
is_segment_literal b = is_literal b && not (b == slash)

-- the tokens of the parts that separators cut the bytes of a simple pattern into
abbrev pub byte_parts : List ℕ → List (List TokenModel)
byte_parts bytes = map (map byte_token) (segments_of bytes)

-- the segment of the bytes between two separators, in a simple pattern that is anchored
abbrev pub bytes_segment : List ℕ → SegmentModel
bytes_segment bytes = segment_from true (map byte_token bytes)

-- whether bytes are literals, alone or after a star
abbrev pub is_end : List ℕ → Bool
is_end [] = true
is_end (b ∷ bs) = if b == asterisk then list_all is_literal bs else list_all is_literal (b ∷ bs)

-- the tokens of bytes that are literals, alone or after a star
abbrev pub tokens_of_end : List ℕ → List TokenModel
tokens_of_end [] = []
tokens_of_end (b ∷ bs) = if b == asterisk then star ∷ map literal bs else map literal (b ∷ bs)

-- whether the bytes of a segment of an anchored pattern are a double star, or literals, alone or after a star
abbrev pub is_ends_segment : List ℕ → Bool
is_ends_segment bytes = is_double_star (map byte_token bytes) || is_end bytes

-- the segment of bytes that are a double star, or literals, alone or after a star
abbrev pub ends_segment : List ℕ → SegmentModel
ends_segment bytes = if is_double_star (map byte_token bytes) then double_star else plain (tokens_of_end bytes)

-- the segment of bytes that are literals alone
abbrev pub exact_segment : List ℕ → SegmentModel
exact_segment bytes = plain (map literal bytes)

-- the tokens of literals: alone if `is_whole` is true, and otherwise after a star
abbrev pub end_tokens : Bool → List ℕ → List TokenModel
end_tokens is_whole bytes = if is_whole then map literal bytes else star ∷ map literal bytes

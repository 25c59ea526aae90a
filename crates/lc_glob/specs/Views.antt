-- The tokens, segments and patterns that the code's values stand for.
use Rattle.std.specs.Prelude.{ℕ, Bool, true, false, List, [], ◌∷◌, map}
use Rattle.lc_glob.specs.{Tokens.{TokenModel, literal, any_byte, star, class}, Patterns.{SegmentModel, plain, double_star, PatternModel}}
use Rattle.lc_glob.specs.declared.{byte_set.ByteSet.ByteSet, scope.Scope.Scope, token.{Token.Token, TokenRef.TokenRef}}
use Rattle.lc_glob.specs.declared.segment_ref.{TokensRef.TokensRef, SegmentRef.SegmentRef, SegmentsRef.SegmentsRef}
use Rattle.lc_glob.specs.declared.{simple_pattern.{SimpleKind.SimpleKind, SimpleForm.SimpleForm}, pattern_view.KindRef.KindRef}
use Rattle.lc_glob.specs.declared.{pattern.PatternKind.{PatternKind, TheVariants.{Simple, Tokens}}, pattern_ref.PatternRef.PatternRef}
use Rattle.lc_glob.specs.{Elements.trimmed_model, TokenLists.{tokens_model, ranges_first, is_separator}, Pieces.cuts_left}
use Rattle.lc_glob.specs.{Path.{segments_of, segments_left}, Reading.segment_from}
use Rattle.lc_glob.specs.Simple.{byte_token, bytes_segment, ends_segment, exact_segment, end_tokens}
use Rattle.lc_glob.specs.declared.token.TokenRef.TheVariants as ref
use Rattle.lc_glob.specs.declared.segment_ref.TokensRef.TheVariants as shape_ref
use Rattle.lc_glob.specs.declared.segment_ref.SegmentRef.TheVariants as segment_ref
use Rattle.lc_glob.specs.declared.segment_ref.SegmentsRef.TheVariants as segments_ref
use Rattle.lc_glob.specs.declared.simple_pattern.SimpleKind.TheVariants as simple
use Rattle.lc_glob.specs.declared.simple_pattern.RareKind.TheVariants as other
use Rattle.lc_glob.specs.declared.pattern_view.KindRef.TheVariants as kind_ref
use Rattle.lc_glob.specs.declared.pattern_ref.PatternRef.TheVariants as pattern_ref

-- the bracket of a byte set, whose ranges come first among the set's tokens
abbrev pub set_model : ByteSet → TokenModel
set_model s = class s.negated (ranges_first s.tokens.now)

-- the tokens and segments that those in the code stand for
abbrev pub token_ref_model : TokenRef → TokenModel
token_ref_model (ref.Literal c) = literal c
token_ref_model ref.AnyByte = any_byte
token_ref_model ref.Star = star
token_ref_model (ref.Class s) = set_model s

abbrev pub tokens_ref_model : TokensRef → List TokenModel
tokens_ref_model (shape_ref.Literal literals) = map literal literals.now
tokens_ref_model (shape_ref.Suffix literals) = star ∷ map literal literals.now
tokens_ref_model (shape_ref.Bytes bytes) = map byte_token bytes.now
tokens_ref_model (shape_ref.Tokens tokens) = tokens_model tokens.now

abbrev pub segment_ref_model : SegmentRef → SegmentModel
segment_ref_model (segment_ref.Plain tokens) = plain (tokens_ref_model tokens)
segment_ref_model segment_ref.DoubleStar = double_star

abbrev pub segments_ref_model : SegmentsRef → List SegmentModel
segments_ref_model (segments_ref.Bytes left) = map bytes_segment (segments_left left.rest)
segments_ref_model (segments_ref.Ends left) = map ends_segment (segments_left left.rest)
segments_ref_model (segments_ref.Exact left) = map exact_segment (segments_left left.rest)
segments_ref_model (segments_ref.Tokens left) = map (λ part. segment_from true (tokens_model part)) (cuts_left is_separator left.rest)

-- a dead pattern, and a pattern that is not dead: for directories only or not, anchored or not, with its segments
abbrev pub dead_model : Bool → PatternModel
dead_model is_dir_only = record { is_dead = true; is_dir_only = is_dir_only; is_anchored = false; segments = [] }

abbrev pub live_model : Bool → Bool → List SegmentModel → PatternModel
live_model is_dir_only is_anchored segments =
    record { is_dead = false; is_dir_only = is_dir_only; is_anchored = is_anchored; segments = segments }

-- the pattern of a simple pattern's kind and bytes; the bytes have no separators at their ends and, for a suffix, no star
abbrev pub simple_model : Bool → SimpleKind → List ℕ → PatternModel
simple_model is_dir_only (simple.Suffix is_whole) bytes = live_model is_dir_only false (plain (end_tokens is_whole bytes) ∷ [])
simple_model is_dir_only (simple.Other other.Dead) bytes = dead_model is_dir_only
simple_model is_dir_only (simple.Other other.LastSegment) bytes = live_model is_dir_only false (plain (map byte_token bytes) ∷ [])
simple_model is_dir_only (simple.Other other.Exact) bytes = live_model is_dir_only true (map exact_segment (segments_of bytes))
simple_model is_dir_only (simple.Other other.Ends) bytes = live_model is_dir_only true (map ends_segment (segments_of bytes))
simple_model is_dir_only (simple.Other other.WholePath) bytes = live_model is_dir_only true (map bytes_segment (segments_of bytes))

-- the pattern of a simple pattern's form and bytes
abbrev pub form_model : SimpleForm → List ℕ → PatternModel
form_model form bytes = simple_model form.is_dir_only form.kind bytes

-- the pattern of a scope and of stored tokens, which have no separators at their ends
abbrev pub token_pattern_model : Scope → List Token → PatternModel
token_pattern_model scope tokens = trimmed_model tokens_model is_separator scope.is_dir_only scope.is_anchored tokens

-- the pattern of a `PatternKind`
abbrev pub pattern_kind_model : PatternKind → PatternModel
pattern_kind_model (Simple form bytes) = form_model form bytes.items
pattern_kind_model (Tokens scope tokens) = token_pattern_model scope tokens.items

-- the pattern of a borrowed pattern
abbrev pub pattern_ref_model : PatternRef → PatternModel
pattern_ref_model (pattern_ref.Simple p) = form_model p.form p.bytes.now
pattern_ref_model (pattern_ref.Tokens p) = token_pattern_model p.scope p.tokens.now

-- the pattern of a view, by whether it is for directories only, and by its kind
abbrev pub pattern_view_model : Bool → KindRef → PatternModel
pattern_view_model is_dir_only kind_ref.Dead = dead_model is_dir_only
pattern_view_model is_dir_only (kind_ref.LastSegment tokens) = live_model is_dir_only false (plain (tokens_ref_model tokens) ∷ [])
pattern_view_model is_dir_only (kind_ref.WholePath segments) = live_model is_dir_only true (segments_ref_model segments)

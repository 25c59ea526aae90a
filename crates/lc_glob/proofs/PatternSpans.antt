-- Patterns that are kept stay what they are while more are taken.
use Rattle.std.proofs.Common.{◌≡◌, ◌+◌, ◌≤◌, ℕ, List, [], ◌∷◌, ◌++◌, length, map, take, drop, refl, ◌∙◌, ap, ap₂, arith}
use Rattle.std.proofs.{Math.Seq.{take-length, drop-append_seam}, lemmas.List.{take-append-le, drop-append-le, length-drop, map-append}}
use Rattle.std.proofs.lemmas.List.Elements.{All-head, All-tail}
use Rattle.std.specs.List.{All}
use Rattle.lc_glob.specs.{Patterns.PatternModel, Views.{form_model, token_pattern_model}, declared.scope.Scope.Scope}
use Rattle.lc_glob.specs.declared.{simple_pattern.SimpleForm.SimpleForm, token.Token.Token, pattern_set.PatternForm.PatternForm}
use Rattle.lc_glob.specs.declared.pattern_set.{PatternForm.TheVariants.{Simple, Tokens}, PatternSpan.PatternSpan}
use Rattle.lc_glob.specs.PatternSpans.{pattern_from, pattern_in, IsThere, IsSpanOf}

-- a part of a list is that of a longer one
part_stays : {A : Type 0} (xs ys : List A) (start len : ℕ) → start + len ≤ length xs
    → take len (drop start (xs ++ ys)) ≡ take len (drop start xs)
part_stays xs ys start len within =
    ap (take len) (drop-append-le start xs ys (omega arith))
    ∙ take-append-le len (drop start xs) ys (omega (arith, length-drop start xs))

-- and what is added is a part of it
part_added : {A : Type 0} (xs ys : List A) (start len : ℕ) → start ≡ length xs → len ≡ length ys → take len (drop start (xs ++ ys)) ≡ ys
part_added xs ys start len begins long =
    ap₂ (λ n k. take n (drop k (xs ++ ys))) long begins ∙ ap (take (length ys)) (drop-append_seam xs ys) ∙ take-length ys

bytes_stay : (bytes more : List ℕ) (tokens : List Token) (form : PatternForm) (start len : ℕ)
    → IsThere (length bytes) (length tokens) form start len
    → pattern_from (bytes ++ more) tokens form start len ≡ pattern_from bytes tokens form start len
bytes_stay bytes more tokens (Simple form) start len there = ap (form_model form) (part_stays bytes more start len there)
bytes_stay bytes more tokens (Tokens scope) start len there = refl

tokens_stay : (bytes : List ℕ) (tokens more : List Token) (form : PatternForm) (start len : ℕ)
    → IsThere (length bytes) (length tokens) form start len
    → pattern_from bytes (tokens ++ more) form start len ≡ pattern_from bytes tokens form start len
tokens_stay bytes tokens more (Simple form) start len there = refl
tokens_stay bytes tokens more (Tokens scope) start len there = ap (token_pattern_model scope) (part_stays tokens more start len there)

-- so patterns that were there stay, where each of them does
all_stay : (bytes new_bytes : List ℕ) (tokens new_tokens : List Token) (spans : List PatternSpan)
    → All (IsSpanOf (length bytes) (length tokens)) spans
    → ((form : PatternForm) (start len : ℕ) → IsThere (length bytes) (length tokens) form start len
    → pattern_from new_bytes new_tokens form start len ≡ pattern_from bytes tokens form start len)
    → map (pattern_in new_bytes new_tokens) spans ≡ map (pattern_in bytes tokens) spans
all_stay bytes new_bytes tokens new_tokens [] all stays = refl
all_stay bytes new_bytes tokens new_tokens (p ∷ ps) all stays =
    let P = IsSpanOf (length bytes) (length tokens) in
    ap₂ (λ (x : PatternModel) (xs : List PatternModel). x ∷ xs) (stays p.form p.start p.len (All-head P p ps all))
    (all_stay bytes new_bytes tokens new_tokens ps (All-tail P p ps all) stays)

-- one pattern more at the end of such
one_more : (bytes new_bytes : List ℕ) (tokens new_tokens : List Token) (spans new_spans : List PatternSpan) (now : List PatternModel)
    (span : PatternSpan)
    (pattern : PatternModel) → map (pattern_in bytes tokens) spans ≡ now
    → map (pattern_in new_bytes new_tokens) spans ≡ map (pattern_in bytes tokens) spans
    → new_spans ≡ spans ++ span ∷ [] → pattern_in new_bytes new_tokens span ≡ pattern
    → map (pattern_in new_bytes new_tokens) new_spans ≡ now ++ pattern ∷ []
one_more bytes new_bytes tokens new_tokens spans new_spans now span pattern is same added last =
    ap (map (pattern_in new_bytes new_tokens)) added ∙ map-append (pattern_in new_bytes new_tokens) spans (span ∷ [])
    ∙ ap₂ (λ (l : List PatternModel) (p : PatternModel). l ++ p ∷ []) (same ∙ is) last

-- one that is kept as its bytes
pub bytes_kept : (spans new_spans : List PatternSpan) (bytes part new_bytes : List ℕ) (tokens : List Token) (now : List PatternModel)
    (span : PatternSpan)
    (form : SimpleForm) (start len : ℕ) → All (IsSpanOf (length bytes) (length tokens)) spans → map (pattern_in bytes tokens) spans ≡ now
    → new_bytes ≡ bytes ++ part → new_spans ≡ spans ++ span ∷ [] → span ≡ record { form = Simple form; start = start; len = len }
    → start ≡ length bytes → len ≡ length part → map (pattern_in new_bytes tokens) new_spans ≡ now ++ form_model form part ∷ []
bytes_kept spans new_spans bytes part new_bytes tokens now span form start len all is more added at begins long =
    rw more (one_more bytes (bytes ++ part) tokens tokens spans new_spans now span (form_model form part) is
    (all_stay bytes (bytes ++ part) tokens tokens spans all (λ form start len. bytes_stay bytes part tokens form start len)) added
    (ap (pattern_in (bytes ++ part) tokens) at ∙ ap (form_model form) (part_added bytes part start len begins long)))

-- and one that is kept as its tokens
pub tokens_kept : (spans new_spans : List PatternSpan) (bytes : List ℕ) (tokens part new_tokens : List Token) (now : List PatternModel)
    (span : PatternSpan)
    (scope : Scope) (start len : ℕ) → All (IsSpanOf (length bytes) (length tokens)) spans → map (pattern_in bytes tokens) spans ≡ now
    → new_tokens ≡ tokens ++ part → new_spans ≡ spans ++ span ∷ [] → span ≡ record { form = Tokens scope; start = start; len = len }
    → start ≡ length tokens → len ≡ length part → map (pattern_in bytes new_tokens) new_spans ≡ now ++ token_pattern_model scope part ∷ []
tokens_kept spans new_spans bytes tokens part new_tokens now span scope start len all is more added at begins long =
    rw more (one_more bytes bytes tokens (tokens ++ part) spans new_spans now span (token_pattern_model scope part) is
    (all_stay bytes bytes tokens (tokens ++ part) spans all (λ form start len. tokens_stay bytes tokens part form start len)) added
    (ap (pattern_in bytes (tokens ++ part)) at ∙ ap (token_pattern_model scope) (part_added tokens part start len begins long)))

-- The sizes of what stands before the last of a list, and of that last.
use Rattle.std.proofs.Common.{refl, ◌≡◌, ◌≤◌, ◌<◌, ◌+◌, ◌-◌, zero, suc, ◌*◌, ℕ, List, [], ◌∷◌, ◌++◌, length, ap, ◌∙◌, arith}
use Rattle.lc_glob.specs.{Tokens.TokenModel, Patterns.{SegmentModel, plain, double_star}, Views.{tokens_ref_model, segment_ref_model}}
use Rattle.lc_glob.specs.declared.segment_ref.{SegmentRef.{SegmentRef, TheVariants.{Plain, DoubleStar}}, TokensRef.TokensRef}
use Rattle.lc_glob.specs.Costs.{tokens_with_ends, bytes_with_ends, full_cost}

-- one name more adds its bytes and its end
pub bytes_with_ends-end : (above : List (List ℕ)) (name : List ℕ)
    → bytes_with_ends (above ++ name ∷ []) ≡ bytes_with_ends above + (length name + 1)
bytes_with_ends-end [] name = omega arith
bytes_with_ends-end (n ∷ above) name = omega (arith, bytes_with_ends-end above name)

-- one plain segment more adds its tokens and its end
pub tokens_with_ends-end : (front : List SegmentModel) (us : List TokenModel)
    → tokens_with_ends (front ++ plain us ∷ []) ≡ tokens_with_ends front + (length us + 1)
tokens_with_ends-end [] us = omega arith
tokens_with_ends-end (double_star ∷ front) us = tokens_with_ends-end front us
tokens_with_ends-end (plain vs ∷ front) us = omega (arith, tokens_with_ends-end front us)

-- the last segment at the path's last, and what is before them
pub end_cost : (s r : List SegmentModel) (path above : List (List ℕ)) (us : List TokenModel) (name : List ℕ) (t t' : ℕ)
    → s ≡ r ++ plain us ∷ [] → path ≡ above ++ name ∷ [] → t' < t + (length us + 1) * (length name + 1)
    → t' + full_cost r above < t + full_cost s path
end_cost s r path above us name t t' e q paid =
    let w : tokens_with_ends s ≡ tokens_with_ends r + (length us + 1) = ap tokens_with_ends e ∙ tokens_with_ends-end r us in
    let z : bytes_with_ends path ≡ bytes_with_ends above + (length name + 1) = ap bytes_with_ends q ∙ bytes_with_ends-end above name in
    product (length us) (length name) (bytes_with_ends above) (tokens_with_ends r) (tokens_with_ends s) (bytes_with_ends path) t t' w z paid
  where
    product : (u n a r w z t t' : ℕ) → w ≡ r + (u + 1) → z ≡ a + (n + 1) → t' < t + (u + 1) * (n + 1) → t' + r * a < t + w * z
    product u n a r w z t t' e f h = rw (e, f) (omega arith)

-- the same where nothing is before the segment
pub last_cost : (path above : List (List ℕ)) (us : List TokenModel) (name : List ℕ) (t t' : ℕ) → path ≡ above ++ name ∷ []
    → t' < t + (length us + 1) * (length name + 1) → t' ≤ t + (full_cost (plain us ∷ []) path - 1)
last_cost path above us name t t' q paid = omega (arith, end_cost (plain us ∷ []) [] path above us name t t' refl q paid)

-- without the last of the path's segments
pub above_cost : (s : List SegmentModel) (path above : List (List ℕ)) (name : List ℕ) (t t' : ℕ) → path ≡ above ++ name ∷ []
    → t' ≤ t + full_cost s above → t' ≤ t + (full_cost s path - 1)
above_cost s path above name t t' q paid =
    let z : bytes_with_ends path ≡ bytes_with_ends above + (length name + 1) = ap bytes_with_ends q ∙ bytes_with_ends-end above name in
    product (tokens_with_ends s) (bytes_with_ends above) (length name) (bytes_with_ends path) t t' z paid
  where
    product : (w a n z t t' : ℕ) → z ≡ a + (n + 1) → t' ≤ t + w * a → t' ≤ t + (w * z - 1)
    product zero a n z t t' f h = omega arith
    product (suc w) a n z t t' f h = rw f (omega arith)

-- segments that end with a plain one
pub end_segment : (all rest : List SegmentModel) (s : SegmentRef) (tokens : TokensRef) → all ≡ rest ++ segment_ref_model s ∷ []
    → s ≡ Plain tokens → all ≡ rest ++ plain (tokens_ref_model tokens) ∷ []
end_segment all rest s tokens e is = e ∙ ap (λ t. rest ++ segment_ref_model t ∷ []) is

-- segments that end with a double star
pub end_double : (all rest : List SegmentModel) (s : SegmentRef) → all ≡ rest ++ segment_ref_model s ∷ [] → s ≡ DoubleStar
    → all ≡ rest ++ double_star ∷ []
end_double all rest s e is = e ∙ ap (λ t. rest ++ segment_ref_model t ∷ []) is

-- the last segment at the path's last, and then what is before it at the segments above
pub spell_cost : (s r : List SegmentModel) (path above : List (List ℕ)) (us : List TokenModel) (name : List ℕ) (t m t' : ℕ)
    → s ≡ r ++ plain us ∷ [] → path ≡ above ++ name ∷ [] → m < t + (length us + 1) * (length name + 1) → t' ≤ m + full_cost r above
    → t' ≤ t + (full_cost s path - 1)
spell_cost s r path above us name t m t' e q paid more = omega (arith, end_cost s r path above us name t m e q paid)

-- The mark of a rest, by the last byte.
use Rattle.std.proofs.Common.{◌≡◌, ℕ, suc, ◌-◌, ◌<◌, Bool, not, List, [], ◌∷◌, ◌++◌, length, get_or, refl, ap, ◌∙◌, arith}
use Rattle.lc_census.specs.{Bytes.is_end, Fed.rest_after}

-- the mark after two pieces
pub rest_after-append : (b : Bool) (xs ys : List ℕ) → rest_after b (xs ++ ys) ≡ rest_after (rest_after b xs) ys
rest_after-append b [] ys = refl
rest_after-append b (x ∷ xs) ys = rest_after-append (not (is_end x)) xs ys

by_last : (b : Bool) (x : ℕ) (xs : List ℕ) → rest_after b (x ∷ xs) ≡ not (is_end (get_or (x ∷ xs) (length xs) 0))
by_last b x [] = refl
by_last b x (y ∷ ys) = by_last (not (is_end x)) y ys

-- the mark is told by the last byte
pub rest_after_last : (b : Bool) (xs : List ℕ) → 0 < length xs → rest_after b xs ≡ not (is_end (get_or xs (length xs - 1) 0))
rest_after_last b [] h = let no : ⊥ = omega arith in absurd no
rest_after_last b (x ∷ xs) h =
    let e : length xs ≡ suc (length xs) - 1 = omega arith in
    by_last b x xs ∙ ap (λ n. not (is_end (get_or (x ∷ xs) n 0))) e

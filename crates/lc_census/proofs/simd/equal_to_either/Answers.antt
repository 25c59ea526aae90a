use Rattle.std.proofs.Common.{◌≡◌, ℕ, eqb, cond, Bool, true, false, ◌||◌, List, [], ◌∷◌, map, refl, ap, ap₂, ◌∙◌, arith}
use Rattle.std.proofs.lemmas.{Simd.zip2_splat, List.get_or-map}
use lib.{Bits.bit_or, Lanes.{zip2, mask_l, top}}
use Rattle.lc_census.specs.Lanes.{test}
use Rattle.lc_census.proofs.Bits.Test.{test-mod, test-mask_l}
use Rattle.lc_census.proofs.simd.equal_to_either.Goals as goal

-- a lane of a comparison
abbrev hit : ℕ → ℕ → ℕ
hit a b = cond (eqb a b) 255 0

top_either : (p q : Bool) → top 7 (bit_or (cond p 255 0) (cond q 255 0)) ≡ (p || q)
top_either true true = refl
top_either true false = refl
top_either false true = refl
top_either false false = refl

either_lanes : (v : List ℕ) (a b : ℕ)
    → map (top 7) (zip2 bit_or (map (λ x. hit x a) v) (map (λ x. hit x b) v)) ≡ map (λ x. eqb x a || eqb x b) v
either_lanes [] a b = refl
either_lanes (x ∷ v) a b = ap₂ (λ h t. h ∷ t) (top_either (eqb x a) (eqb x b)) (either_lanes v a b)

pub returns : goal.returns
returns c i h =
    let v = c.args.v in
    let a = c.args.one in
    let b = c.args.other in
    let long = c.fits-v.0 in
    let p = λ (x : ℕ). eqb x a || eqb x b in
    let lanes = ap (map (top 7)) (ap₂ (zip2 bit_or) (zip2_splat hit v 64 a long) (zip2_splat hit v 64 b long)) ∙ either_lanes v a b in
    test-mod _ i h ∙ ap (λ ms. test (mask_l ms) i) lanes ∙ test-mask_l (map p v) i
    ∙ get_or-map p v i 0 false (omega (arith, long))

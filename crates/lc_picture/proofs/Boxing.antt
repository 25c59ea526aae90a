-- Boxes that are written one after the other.
use Rattle.std.proofs.Common.{◌≡◌, ℕ, ◌+◌, ◌<◌, List, ◌∷◌, ◌++◌, length, drop, get_or, min, refl, sym, ap, ap₂, ◌∙◌}
use Rattle.lc_picture.specs.{declared.scale.Scale.Scale, Boxes.BoxModel, Nested.{boxes_in, next_box}, Pieces.text_of}
use Rattle.lc_picture.proofs.{Steps.one_on, Texts.two_texts}

-- behind the next box of some come the others
pub one_box_more : (scale : Scale) (within next : ℕ) (t0 t1 all : List ℕ) (b d : BoxModel) (bs after : List BoxModel) (i : ℕ)
    → i < length bs → b ≡ get_or bs i d → after ≡ drop (i + 1) bs → next ≡ min within b.depth + 1
    → t1 ≡ t0 ++ text_of (next_box scale within b after) → t0 ++ text_of (boxes_in scale within (drop i bs)) ≡ all
    → t1 ++ text_of (boxes_in scale next (drop (i + 1) bs)) ≡ all
one_box_more scale within next t0 t1 all b d bs after i inside is rest deeper e same =
    let next_first : drop i bs ≡ b ∷ after = one_on b d bs i inside is ∙ ap (λ (xs : List BoxModel). b ∷ xs) (sym rest) in
    ap₂ (λ (n : ℕ) (xs : List BoxModel). t1 ++ text_of (boxes_in scale n xs)) deeper (sym rest)
    ∙ two_texts t0 t1 (t1 ++ text_of (boxes_in scale (min within b.depth + 1) after)) (next_box scale within b after)
    (boxes_in scale (min within b.depth + 1) after) e refl
    ∙ ap (λ (xs : List BoxModel). t0 ++ text_of (boxes_in scale within xs)) (sym next_first) ∙ same

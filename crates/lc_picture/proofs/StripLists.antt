-- Strips, joined, are the boxes right in a box.
use Rattle.std.proofs.Common.{◌≡◌, ℕ, ◌+◌, List, [], ◌∷◌, ◌++◌, refl, arith}
use Rattle.std.specs.List.{flat_map}
use Rattle.lc_picture.specs.{Boxes.BoxModel, Laws.{StripsLaw, later_strips, right_inside}, Strips.{strip_left}}

-- what is left of a strip, and the strips after it
joined : (depth : ℕ) (bs : List BoxModel)
    → strip_left (depth + 1) bs ++ flat_map (λ (strip : List BoxModel). strip) (later_strips depth bs) ≡ right_inside depth bs
joined depth [] = refl
joined depth (b ∷ bs) = grind (arith, joined depth bs)

pub strips_law : StripsLaw
strips_law depth b bs e = grind (arith, joined depth bs)

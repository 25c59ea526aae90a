-- The law that the numbers of the boxes right in a box add up to its own.
use Rattle.std.specs.Prelude.{◌≡◌, ◌≤◌, ℕ, ◌+◌, ◌==◌, true, nat_le, if◌then◌else◌, List, [], ◌∷◌, ⊤}
use Rattle.lc_rows.specs.ShownRows.{number_in}
use Rattle.lc_sheet.specs.declared.column.Number.{Number}
use Rattle.lc_picture.specs.{Boxes.BoxModel, Rests.{holds_box, with_rests}, Tree.first_levels}

-- the sum of the numbers of the boxes right in a box of this depth, which these boxes follow
abbrev pub number_inside : Number → ℕ → List BoxModel → ℕ
number_inside by depth [] = 0
number_inside by depth (b ∷ bs) =
    if nat_le b.depth depth then 0
    else (if b.depth == depth + 1 then number_in by b.sums else 0) + number_inside by depth bs

-- the numbers of the boxes right in a box are not more than its own
abbrev pub NumbersFit : Number → List BoxModel → Type 0
NumbersFit by [] = ⊤
NumbersFit by (b ∷ bs) = (number_inside by b.depth bs ≤ number_in by b.sums) × NumbersFit by bs

-- where boxes are inside a box, the numbers of those right in it add up to its own
abbrev pub AddUp : Number → List BoxModel → Type 0
AddUp by [] = ⊤
AddUp by (b ∷ bs) = (holds_box b.depth bs ≡ true → number_inside by b.depth bs ≡ number_in by b.sums) × AddUp by bs

-- the numbers of boxes and rests add up, and so do those of the first levels alone
abbrev pub SumsLaw : Type 0
SumsLaw = (by : Number) (bs : List BoxModel) → NumbersFit by bs → AddUp by (with_rests by bs)

abbrev pub TreeSumsLaw : Type 0
TreeSumsLaw = (by : Number) (levels : ℕ) (bs : List BoxModel) → AddUp by bs → AddUp by (first_levels levels bs)

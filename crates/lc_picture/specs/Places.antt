-- The order of boxes: depth first, and the boxes right in the same box from the largest to the smallest.
use Rattle.std.specs.{Prelude.{◌≡◌, ◌<◌, ◌≤◌, ℕ, Bool, List, [], ◌∷◌, ◌++◌, length, map, take}, Cmp.Lexicographic.slice_cmp}
use Rattle.std.specs.{List.{slice_index_or, Sorted.{IsPermutation, IsSortedByKey}}, Ordering.{bool_cmp, nat_cmp, on, then_cmp}}
use Rattle.std.specs.declared.cmp.Ordering.{Ordering}
use Rattle.lc_rows.specs.ShownRows.{number_in}
use Rattle.lc_sheet.specs.declared.column.Number.{Number}
use Rattle.lc_tree.specs.ByteOrder.{bytes_cmp}
use Rattle.lc_picture.specs.Boxes.{BoxModel}

-- what decides the place of a directory or a file among those right in the same directory
pub record PlaceModel : Type 0 where
  pub number : ℕ
  pub own_name : List ℕ
  pub is_file : Bool

abbrev pub place_of : Number → BoxModel → PlaceModel
place_of by b = record { number = number_in by b.sums; own_name = b.own_name; is_file = b.is_file }

-- the order of places by number, the largest first
abbrev pub by_number : PlaceModel → PlaceModel → Ordering
by_number a b = nat_cmp b.number a.number

-- the order of places: the largest number first, equal numbers by name, and a directory before a file of the same name. Reports that were
-- added up may have both
abbrev pub place_cmp : PlaceModel → PlaceModel → Ordering
place_cmp =
    then_cmp (then_cmp by_number (on (λ (p : PlaceModel). p.own_name) bytes_cmp)) (on (λ (p : PlaceModel). p.is_file) bool_cmp)

-- the places of a box and of the directories above it, from the top down, where `before` has those of the box before it
abbrev pub branch_of : Number → List PlaceModel → BoxModel → List PlaceModel
branch_of by before b = take b.depth before ++ place_of by b ∷ []

-- a box, with its place and those of the directories above it
pub record PlacedModel : Type 0 where
  pub branch : List PlaceModel
  pub drawn : BoxModel

-- boxes that come depth first, with their places
abbrev pub placed_from : Number → List PlaceModel → List BoxModel → List PlacedModel
placed_from by before [] = []
placed_from by before (b ∷ bs) =
    record { branch = branch_of by before b; drawn = b } ∷ placed_from by (branch_of by before b) bs

-- the boxes with their places, in the order of these places
pub record AreInOrder (by : Number) (boxes : List BoxModel) (placed : List PlacedModel) : Type 0 where
  pub same : IsPermutation (placed_from by [] boxes) placed
  pub order : IsSortedByKey (λ (p : PlacedModel). p.branch) (slice_cmp place_cmp) placed

-- the second list has the boxes of the first, depth first, and the boxes right in the same box from the largest to the smallest
pub record AreLargestFirst (by : Number) (boxes sorted : List BoxModel) : Type 0 where
  pub placed : List PlacedModel
  pub in_order : AreInOrder by boxes placed
  pub are : sorted ≡ map (λ (p : PlacedModel). p.drawn) placed

-- of two boxes right in the same box, the later has no larger number. Such boxes have the same places, but for the last
abbrev pub FallingLaw : Type 0
FallingLaw =
    (by : Number) (boxes : List BoxModel) (placed : List PlacedModel) (d : PlacedModel) (i j : ℕ) (above : List PlaceModel)
    (a b : PlaceModel) → AreInOrder by boxes placed → i < j → j < length placed
    → (slice_index_or placed i d).branch ≡ above ++ a ∷ [] → (slice_index_or placed j d).branch ≡ above ++ b ∷ []
    → number_in by (slice_index_or placed j d).drawn.sums ≤ number_in by (slice_index_or placed i d).drawn.sums

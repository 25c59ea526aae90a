-- How deep a path can be.
use Rattle.std.proofs.Common.{◌≡◌, ℕ, ◌+◌, ◌≤◌, ◌==◌, ◌&&◌, Bool, false, List, [], ◌∷◌, length, refl, arith}
use Rattle.std.proofs.lemmas.List.{Splits.length-slice_split, Sums.count_by-le-length}
use Rattle.lc_glob.specs.Path.{depth_of}
use Rattle.lc_level.specs.RuleFiles.{is_top}

-- a path has at most as many segments as bytes, and one
pub depth_few : (p : List ℕ) → depth_of p ≤ length p + 1
depth_few [] = omega arith
depth_few (b ∷ bs) = omega (arith, length-slice_split (λ c. c == 47) (b ∷ bs), count_by-le-length (λ c. c == 47) (b ∷ bs))

-- what is said of the top alone is not said of a path that is not empty
pub below_top : (p : List ℕ) (b : Bool) → (length p == 0) ≡ false → (is_top p && b) ≡ false
below_top [] b e = cc
below_top (x ∷ xs) b e = refl

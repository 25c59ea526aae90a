-- Branches of which one ends first.
use Rattle.std.proofs.{Common.{◌≡◌, ℕ, ◌<◌, ◌≤◌, List, [], ◌∷◌, length, drop, sym, ap₂, arith, drop-cons}, lemmas.List.drop_all}
use Rattle.std.specs.{Cmp.Lexicographic.slice_cmp, declared.cmp.Ordering.TheVariants.{Less, Greater}}
use Rattle.lc_picture.specs.Places.{PlaceModel, place_cmp}

pub first_longer : (a b : List PlaceModel) (n : ℕ) → n < length a → length b ≤ n → Greater ≡ slice_cmp place_cmp (drop n a) (drop n b)
first_longer a b n in_a out_b = at a n in_a (drop_all n b out_b)
  where
    at : (xs : List PlaceModel) (k : ℕ) → k < length xs → drop n b ≡ [] → Greater ≡ slice_cmp place_cmp (drop k xs) (drop n b)
    at [] k inside none = absurd (omega arith)
    at (x ∷ xs) k inside none =
        sym (ap₂ (λ (ys zs : List PlaceModel). slice_cmp place_cmp ys zs) (drop-cons (x ∷ xs) k x inside) none)

pub second_longer : (a b : List PlaceModel) (n : ℕ) → length a ≤ n → n < length b → Less ≡ slice_cmp place_cmp (drop n a) (drop n b)
second_longer a b n out_a in_b = at b n in_b (drop_all n a out_a)
  where
    at : (ys : List PlaceModel) (k : ℕ) → k < length ys → drop n a ≡ [] → Less ≡ slice_cmp place_cmp (drop n a) (drop k ys)
    at [] k inside none = absurd (omega arith)
    at (y ∷ ys) k inside none =
        sym (ap₂ (λ (xs zs : List PlaceModel). slice_cmp place_cmp xs zs) none (drop-cons (y ∷ ys) k y inside))

-- Of boxes right in the same one, the largest comes first.
use Rattle.std.proofs.Common.{◌≡◌, ℕ, ◌<◌, ◌≤◌, false, take, length, List, [], ◌∷◌, ◌++◌, get_or, refl, sym, ap, ap₂, ◌∙◌, arith}
use Rattle.std.proofs.lemmas.Cmp.{back_total, lists_total, nat_cmp_total, nat_list_cmp_total, on_total, then_total, tied_itself}
use Rattle.std.proofs.lemmas.List.{Elements.{All-cons, All-nil}, Sorted.{All-permutation, ranks_by, sorted_far}}
use Rattle.std.proofs.lemmas.Map.Keys.{ge_from_not_lt}
use Rattle.std.specs.{Cmp.{IsTotalOrder, bool_cmp_total, Lexicographic.slice_cmp}, Ordering.{is_lt, ordering_then}, List.All}
use Rattle.lc_rows.proofs.ViewLaws.{first_decides}
use Rattle.lc_rows.specs.ShownRows.{number_in}
use Rattle.lc_sheet.specs.declared.column.Number.{Number}
use Rattle.lc_picture.specs.{Boxes.BoxModel, Places.{AreInOrder, FallingLaw, PlaceModel, PlacedModel, branch_of, place_cmp, place_of}}
use Rattle.lc_picture.specs.Places.{placed_from}

place_cmp_total : IsTotalOrder place_cmp
place_cmp_total =
    then_total
    (then_total (on_total (λ (p : PlaceModel). p.number) (back_total nat_cmp_total))
    (on_total (λ (p : PlaceModel). p.own_name) nat_list_cmp_total)) (on_total (λ (p : PlaceModel). p.is_file) bool_cmp_total)

-- branches are in a total order
pub branches_total : IsTotalOrder (slice_cmp place_cmp)
branches_total = lists_total place_cmp_total

same_above : (above xs ys : List PlaceModel) → slice_cmp place_cmp (above ++ xs) (above ++ ys) ≡ slice_cmp place_cmp xs ys
same_above [] xs ys = refl
same_above (p ∷ above) xs ys =
    ap (λ o. ordering_then o (slice_cmp place_cmp (above ++ xs) (above ++ ys))) (tied_itself place_cmp_total p)
    ∙ same_above above xs ys

-- the last place of a branch is that of the box
abbrev HasItsPlace : Number → PlacedModel → Type 0
HasItsPlace by p = (above : List PlaceModel) × (p.branch ≡ above ++ place_of by p.drawn ∷ [])

have_places : (by : Number) (before : List PlaceModel) (bs : List BoxModel) → All (HasItsPlace by) (placed_from by before bs)
have_places by before [] = All-nil (HasItsPlace by)
have_places by before (b ∷ bs) =
    All-cons (HasItsPlace by) _ _ (take b.depth before, refl) (have_places by (branch_of by before b) bs)

last_place : PlaceModel → List PlaceModel → PlaceModel
last_place d [] = d
last_place d (p ∷ ps) = last_place p ps

last_is : (d : PlaceModel) (ps : List PlaceModel) (p : PlaceModel) → last_place d (ps ++ p ∷ []) ≡ p
unfolding last_place
last_is d [] p = refl
last_is d (q ∷ qs) p = last_is q qs p

same_last : (ps qs : List PlaceModel) (p q : PlaceModel) → ps ++ p ∷ [] ≡ qs ++ q ∷ [] → p ≡ q
same_last ps qs p q e = sym (last_is p ps p) ∙ ap (last_place p) e ∙ last_is p qs q

-- so a place that ends a branch has the number of the box
its_number : (by : Number) (boxes : List BoxModel) (placed : List PlacedModel) → AreInOrder by boxes placed
    → (i : ℕ) (d : PlacedModel) → i < length placed → (above : List PlaceModel) (a : PlaceModel)
    → (get_or placed i d).branch ≡ above ++ a ∷ [] → a.number ≡ number_in by (get_or placed i d).drawn.sums
its_number by boxes placed sorted i d within above a ends =
    let own = All-permutation (HasItsPlace by) (placed_from by [] boxes) placed sorted.same (have_places by [] boxes) i d within in
    ap (λ (p : PlaceModel). p.number)
    (same_last above own.0 a (place_of by (get_or placed i d).drawn) (sym ends ∙ own.1))

places_fall : (a b : PlaceModel) → is_lt (slice_cmp place_cmp (b ∷ []) (a ∷ [])) ≡ false → b.number ≤ a.number
places_fall a b last = ge_from_not_lt a.number b.number (first_decides _ _ (first_decides _ _ (first_decides _ _ last)))

pub falling_law : FallingLaw
falling_law by boxes placed d i j above a b sorted before within first second =
    let not_before : is_lt (slice_cmp place_cmp (get_or placed j d).branch (get_or placed i d).branch) ≡ false =
    sorted_far (λ (x : PlacedModel) (y : PlacedModel). is_lt (slice_cmp place_cmp x.branch y.branch))
    (ranks_by branches_total (λ (p : PlacedModel). p.branch)) placed sorted.order i j d (omega arith) within in
    let last : is_lt (slice_cmp place_cmp (b ∷ []) (a ∷ [])) ≡ false =
    ap is_lt (sym (same_above above (b ∷ []) (a ∷ [])))
    ∙ ap₂ (λ (xs ys : List PlaceModel). is_lt (slice_cmp place_cmp xs ys)) (sym second) (sym first) ∙ not_before in
    let falls = places_fall a b last in
    let of_a = its_number by boxes placed sorted i d (omega arith) above a first in
    let of_b = its_number by boxes placed sorted j d within above b second in
    omega arith

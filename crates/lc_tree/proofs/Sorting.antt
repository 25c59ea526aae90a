-- Lines sorted by their paths.
use Rattle.std.proofs.Common.{◌≡◌, ℕ, ◌+◌, ◌<◌, Bool, true, false, List, [], ◌∷◌, length, get_or, map, refl, sym, ◌∙◌, ap, subst, arith}
use Rattle.std.proofs.lemmas.Cmp.{nat_list_cmp_total, eq_by_cmp_equiv}
use Rattle.std.proofs.lemmas.List.{get_or-map, length-map, Sorted.{ranks_by, IsPermutation-map}}
use Rattle.std.proofs.lemmas.Map.Keys.{sorted_from_all_adjacent, apart_from_distinct, IsDistinct-IsPermutation}
use Rattle.std.specs.{declared.cmp.Ordering.{Ordering, TheVariants.{Less, Equal, Greater}}, Ordering.{is_lt, is_eq, ordering_reverse}}
use Rattle.std.specs.{Bool.MatchBool, List.{IsAllAdjacentAnswer, Sorted.{IsSortedBy, IsPermutation}}, Cmp.IsStrictWeakOrder}
use Rattle.lc_tree.specs.ByteOrder.{bytes_cmp, AreApart, AreInOrder}

-- comparing by paths orders them
pub paths_rank : {X : Type 0} (path : X → List ℕ) → IsStrictWeakOrder (λ (x : X) (y : X). is_lt (bytes_cmp (path x) (path y)))
paths_rank path = ranks_by nat_list_cmp_total path

below : (o : Ordering) → is_lt o ≡ false → is_eq o ≡ false → ordering_reverse o ≡ Less
below Less a b = absurd (cc)
below Equal a b = absurd (cc)
below Greater a b = refl

-- of two neighbours the first is below the second
rising : {X : Type 0} (path : X → List ℕ) (ys : List X) (d : X)
    → IsSortedBy (λ (x : X) (y : X). is_lt (bytes_cmp (path x) (path y))) ys → AreApart (map path ys) → (k : ℕ)
    → k + 1 < length (map path ys) → bytes_cmp (get_or (map path ys) k (path d)) (get_or (map path ys) (k + 1) (path d)) ≡ Less
rising path ys d sorted apart k lt =
    let long : k + 1 < length ys = omega (arith, length-map ys path) in
    let short : k < length ys = omega arith in
    let a : List ℕ = get_or (map path ys) k (path d) in
    let b : List ℕ = get_or (map path ys) (k + 1) (path d) in
    let first : a ≡ path (get_or ys k d) = get_or-map path ys k d (path d) short in
    let second : b ≡ path (get_or ys (k + 1) d) = get_or-map path ys (k + 1) d (path d) long in
    let not_less : is_lt (bytes_cmp b a) ≡ false = ap (λ (u : List ℕ). is_lt (bytes_cmp u a)) second
    ∙ ap (λ (u : List ℕ). is_lt (bytes_cmp (path (get_or ys (k + 1) d)) u)) first ∙ sorted k d (omega arith) long in
    let not_same : is_eq (bytes_cmp a b) ≡ false = apart_from_distinct _ (map path ys) k (k + 1) (path d) apart (omega arith) lt in
    nat_list_cmp_total.antisymm a b ∙ below (bytes_cmp b a) not_less (sym ((eq_by_cmp_equiv nat_list_cmp_total).symm a b) ∙ not_same)

in_order : {X : Type 0} (path : X → List ℕ) (ys : List X) → IsSortedBy (λ (x : X) (y : X). is_lt (bytes_cmp (path x) (path y))) ys
    → AreApart (map path ys) → AreInOrder (map path ys)
in_order path [] sorted apart = sorted_from_all_adjacent nat_list_cmp_total [] [] (λ k lt. absurd (omega arith))
in_order path (y ∷ ys) sorted apart =
    sorted_from_all_adjacent nat_list_cmp_total (map path (y ∷ ys)) (path y) (rising path (y ∷ ys) y sorted apart)

-- lines with paths apart, sorted by their paths, have them in order
pub sorted_paths : {X : Type 0} (path : X → List ℕ) (xs ys : List X) → IsPermutation xs ys
    → IsSortedBy (λ (x : X) (y : X). is_lt (bytes_cmp (path x) (path y))) ys → AreApart (map path xs) → AreInOrder (map path ys)
sorted_paths path xs ys moved sorted apart =
    in_order path ys sorted (IsDistinct-IsPermutation _ ((eq_by_cmp_equiv nat_list_cmp_total).symm) (map path xs) (map path ys)
    (IsPermutation-map path xs ys moved) apart)

less_if : (o : Ordering) → true ≡ is_lt o → o ≡ Less
less_if Less e = refl
less_if Equal e = absurd (cc)
less_if Greater e = absurd (cc)

no_tie : (o : Ordering) → false ≡ is_lt o → is_eq o ≡ false → is_lt (ordering_reverse o) ≡ false → ⊥
no_tie Less a b c = cc
no_tie Equal a b c = cc
no_tie Greater a b c = cc

-- things sorted by their paths have these in order where each is below the next, and else a path stands twice
pub order_or_twice : {X : Type 0} (path : X → List ℕ) (xs : List X) (r : Bool)
    → IsAllAdjacentAnswer (λ (x : X) (y : X) b. b ≡ is_lt (bytes_cmp (path x) (path y))) xs r
    → IsSortedBy (λ (x : X) (y : X). is_lt (bytes_cmp (path x) (path y))) xs
    → MatchBool r (AreInOrder (map path xs)) (AreApart (map path xs) → ⊥)
order_or_twice path [] true steps sorted = sorted_from_all_adjacent nat_list_cmp_total [] [] (λ k lt. absurd (omega arith))
order_or_twice path [] false steps sorted = λ apart. let no : ⊥ = omega (arith, steps.1) in no
order_or_twice {X} path (x ∷ xs) true steps sorted =
    let ys : List X = x ∷ xs in
    sorted_from_all_adjacent nat_list_cmp_total (map path ys) (path x) (λ k lt.
    let long : k + 1 < length ys = omega (arith, length-map ys path) in
    rw (get_or-map path ys k x (path x) (omega arith), get_or-map path ys (k + 1) x (path x) long)
    (less_if _ (steps k x long)))
order_or_twice {X} path (x ∷ xs) false steps sorted =
    let ys : List X = x ∷ xs in
    let k : ℕ = steps.0 in
    let long : k + 1 < length ys = steps.1 in
    let a : List ℕ = path (get_or ys k x) in
    let b : List ℕ = path (get_or ys (k + 1) x) in
    λ apart.
    let first : get_or (map path ys) k (path x) ≡ a = get_or-map path ys k x (path x) (omega arith) in
    let second : get_or (map path ys) (k + 1) (path x) ≡ b = get_or-map path ys (k + 1) x (path x) long in
    let not_same : is_eq (bytes_cmp (get_or (map path ys) k (path x)) (get_or (map path ys) (k + 1) (path x)))
    ≡ false = apart_from_distinct _ (map path ys) k (k + 1) (path x) apart (omega arith) (omega (arith, length-map ys path)) in
    let not_same' : is_eq (bytes_cmp a b) ≡ false = subst (λ (u : List ℕ). is_eq (bytes_cmp a u) ≡ false) second
    (subst (λ (u : List ℕ). is_eq (bytes_cmp u (get_or (map path ys) (k + 1) (path x))) ≡ false) first not_same) in
    no_tie (bytes_cmp a b) (steps.2 x) not_same' (subst (λ (o : Ordering). is_lt o ≡ false) (nat_list_cmp_total.antisymm b a)
    (sorted k x (omega arith) long))

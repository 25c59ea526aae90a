-- Elements of lists, from the front.
use Rattle.std.proofs.{lemmas.{Grind.common_steps, List.Elements.Contains-append_cases}, Common.{◌≡◌, suc, ◌<◌, Bool, true, cond, List, []}}
use Rattle.std.proofs.Common.{◌∷◌, ◌++◌, map, refl, sym, subst, arith, ◌⊎◌, inl, inr, ap}
use Rattle.std.specs.List.{Contains, flat_map}

-- x is an element, from the front
abbrev pub In : {X : Type 0} → X → List X → Type 0
In x [] = ⊥
In x (y ∷ ys) = (y ≡ x) ⊎ In x ys

contains_none : {X : Type 0} (x : X) → Contains [] x → ⊥
contains_none x c = let lt : c.0 < 0 = c.1 in omega (arith, lt)

contains_one : {X : Type 0} (y x : X) → Contains (y ∷ []) x → y ≡ x
contains_one y x c = grind (arith, common_steps)

-- an element that a list contains is in it
pub is_in : {X : Type 0} (x : X) (xs : List X) → Contains xs x → In x xs
is_in x [] c = contains_none x c
is_in x (y ∷ ys) c = at (λ i. is_in x ys i) (Contains-append_cases (y ∷ []) ys x c)
  where
    at : (Contains ys x → In x ys) → Contains (y ∷ []) x ⊎ Contains ys x → (y ≡ x) ⊎ In x ys
    at rest (inl h) = inl (contains_one y x h)
    at rest (inr i) = inr (rest i)

-- an element that is in a list is contained
pub contains : {X : Type 0} (x : X) (xs : List X) → In x xs → Contains xs x
contains x [] i = absurd i
contains x (y ∷ ys) (inl e) = (0, omega arith, e)
contains x (y ∷ ys) (inr i) = let c = contains x ys i in (suc c.0, omega (arith, c.1), c.2)

-- an element of the first list is one of both
pub in_skipped : {X : Type 0} (x : X) (xs ys : List X) → In x xs → In x (xs ++ ys)
in_skipped x [] ys i = absurd i
in_skipped x (z ∷ xs) ys (inl e) = inl e
in_skipped x (z ∷ xs) ys (inr i) = inr (in_skipped x xs ys i)

-- and so is one of the second
pub in_right : {X : Type 0} (x : X) (xs ys : List X) → In x ys → In x (xs ++ ys)
in_right x [] ys i = i
in_right x (z ∷ xs) ys i = inr (in_right x xs ys i)

-- an element of both is one of either
pub in_either : {X : Type 0} (x : X) (xs ys : List X) → In x (xs ++ ys) → In x xs ⊎ In x ys
in_either x [] ys i = inr i
in_either x (z ∷ xs) ys (inl e) = inl (inl e)
in_either x (z ∷ xs) ys (inr i) = grind (arith, common_steps, in_either x xs ys i)

-- an element of the lists of a list's elements is one of the list of one of them
pub in_lists : {X Y : Type 0} (f : Y → List X) (x : X) (ys : List Y) → In x (flat_map f ys) → (y : Y) × In y ys × In x (f y)
in_lists f x [] i = absurd i
in_lists {X} {Y} f x (y ∷ ys) i = at (λ b. in_lists f x ys b) (in_either x (f y) (flat_map f ys) i)
  where
    at : (In x (flat_map f ys) → (z : Y) × In z ys × In x (f z)) → In x (f y) ⊎ In x (flat_map f ys) → (z : Y) × In z (y ∷ ys) × In x (f z)
    at rest (inl a) = (y, inl refl, a)
    at rest (inr b) = let r = rest b in (r.0, inr r.1, r.2)

-- and the other way round
pub of_lists : {X Y : Type 0} (f : Y → List X) (x : X) (y : Y) (ys : List Y) → In y ys → In x (f y) → In x (flat_map f ys)
of_lists f x y [] i h = absurd i
of_lists f x y (z ∷ ys) (inl e) h = in_skipped x (f z) (flat_map f ys) (subst (λ w. In x (f w)) (sym e) h)
of_lists f x y (z ∷ ys) (inr i) h = in_right x (f z) (flat_map f ys) (of_lists f x y ys i h)

-- an element of a list that is there under a condition
pub if_cond : {X : Type 0} (b : Bool) (x : X) (xs : List X) → In x (cond b xs []) → (b ≡ true) × In x xs
if_cond b x xs i = grind (arith, common_steps)

-- and the other way round
pub cond_if : {X : Type 0} (b : Bool) (x : X) (xs : List X) → b ≡ true → In x xs → In x (cond b xs [])
cond_if b x xs e i = grind (arith, common_steps)

-- an element of a mapped list is what one is mapped to
pub in_mapped : {X Y : Type 0} (f : X → Y) (y : Y) (xs : List X) → In y (map f xs) → (x : X) × In x xs × (f x ≡ y)
in_mapped f y [] i = absurd i
in_mapped f y (x ∷ xs) (inl e) = (x, inl refl, e)
in_mapped f y (x ∷ xs) (inr i) = let r = in_mapped f y xs i in (r.0, inr r.1, r.2)

-- and the other way round
pub of_mapped : {X Y : Type 0} (f : X → Y) (x : X) (xs : List X) → In x xs → In (f x) (map f xs)
of_mapped f x [] i = absurd i
of_mapped f x (y ∷ ys) (inl e) = inl (ap f e)
of_mapped f x (y ∷ ys) (inr i) = inr (of_mapped f x ys i)

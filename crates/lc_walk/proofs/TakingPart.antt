-- The items of a directory that take part in a walk.
use Rattle.std.proofs.Common.{arith, ◌≡◌, ℕ, Bool, true, false, cond, List, [], ◌∷◌, refl, sym, ◌∙◌, ap, inl, inr, Option}
use Rattle.std.proofs.lemmas.Grind.{common_steps}
use Rattle.std.specs.List.{filter, AllByRecursion}
use Rattle.lc_level.specs.{Answers.Item, Narrowing.part_of}
use Rattle.lc_level.proofs.WellFormed.{Spread}
use Rattle.lc_walk.proofs.Elements.{In}

-- what holds of all holds of what passes a test
pub each_filter : {X : Type 0} (P : X → Type 0) (p : X → Bool) (xs : List X) → AllByRecursion P xs → AllByRecursion P (filter p xs)
each_filter P p [] a = tt
each_filter {X} P p (x ∷ xs) a = grind (arith, common_steps, each_filter P p xs a.1)

-- and so does the test
pub each_passes : {X : Type 0} (p : X → Bool) (xs : List X) → AllByRecursion (λ x. p x ≡ true) (filter p xs)
each_passes p [] = tt
each_passes {X} p (x ∷ xs) = grind (arith, common_steps, each_passes p xs)

-- an element that passes a test is one of all, and passes
pub in_filter : {X : Type 0} (p : X → Bool) (x : X) (xs : List X) → In x (filter p xs) → In x xs × (p x ≡ true)
in_filter p x [] i = absurd i
in_filter {X} p x (y ∷ ys) i = grind (arith, common_steps, in_filter p x ys)

-- and the other way round
pub of_filter : {X : Type 0} (p : X → Bool) (x : X) (xs : List X) → In x xs → p x ≡ true → In x (filter p xs)
of_filter p x [] i e = absurd i
of_filter {X} p x (y ∷ ys) i e = at (p y) refl i (λ j. of_filter p x ys j e)
  where
    at : (b : Bool) → p y ≡ b → In x (y ∷ ys) → (In x ys → In x (filter p ys)) → In x (cond b (y ∷ filter p ys) (filter p ys))
    at true f (inl s) rest = inl s
    at true f (inr j) rest = inr (rest j)
    at false f (inl s) rest = let h : true ≡ false = sym e ∙ ap p (sym s) ∙ f in absurd (cc h)
    at false f (inr j) rest = rest j

spread_filter : (p : Item → Bool) (es : List Item) → Spread es → Spread (filter p es)
spread_filter p [] s = tt
spread_filter p (e ∷ es) s = grind (arith, common_steps, each_filter, spread_filter p es s.2)

-- where the names of items are good and no two the same, so are those of the items that take part
pub spread_part : (only : Option (List (List ℕ))) (d : List ℕ) (es : List Item) → Spread es → Spread (part_of only d es)
spread_part only d es s = spread_filter _ es s

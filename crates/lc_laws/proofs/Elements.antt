-- What is so of each element of a list.
use Rattle.std.proofs.Common.{List, [], ◌∷◌, subst, inl, inr}
use Rattle.std.specs.List.{AllByRecursion}
use Rattle.lc_walk.proofs.Elements.{In}

-- it is so of one
pub of_each : {X : Type 0} (P : X → Type 0) (x : X) (xs : List X) → AllByRecursion P xs → In x xs → P x
of_each P x [] all i = absurd i
of_each P x (y ∷ ys) all (inl e) = subst P e all.0
of_each P x (y ∷ ys) all (inr i) = of_each P x ys all.1 i

-- A list that grew at its end, read from its newest element.
use Rattle.std.proofs.Common.{◌≡◌, List, [], ◌∷◌, ◌++◌, map, refl, ap}
use Rattle.std.specs.declared.snapshot.Snapshot.{Snapshot}
use Rattle.lc_board.specs.{NewestFirst.{onto, newest_first}, Notes.{valued, mine_of}, declared.event.Event.Event}

onto_push : {A : Type 0} (acc xs : List A) (x : A) → onto acc (xs ++ x ∷ []) ≡ x ∷ onto acc xs
onto_push acc [] x = refl
onto_push acc (y ∷ ys) x = onto_push (y ∷ acc) ys x

-- what is pushed comes first
pub newest_push : {A : Type 0} (xs : List A) (x : A) → newest_first (xs ++ x ∷ []) ≡ x ∷ newest_first xs
newest_push xs x = onto_push [] xs x

-- the event of a note that is pushed comes first
pub mine_push : {J R : Type 0} (notes : List (Event (Snapshot J) (Snapshot R))) (n : Event (Snapshot J) (Snapshot R))
    → mine_of (notes ++ n ∷ []) ≡ valued n ∷ mine_of notes
mine_push {J} {R} notes n = ap (λ (ns : List (Event (Snapshot J) (Snapshot R))). map valued ns) (newest_push notes n)

-- The listings and the contents of files of a tree of which one call may fail: the proof of the laws of a tree, which is read from here.
use Rattle.std.proofs.Common.{ℕ, List, [], ◌∷◌, inl, inr, refl}
use Rattle.lc_io.specs.Reads.{Stop, at_end, at_failure, at_neither}
use Rattle.lc_tests.specs.FailingTrees.{GivesOrFails, ListsOrFails}
use Rattle.lc_tree.specs.Trees.{Listings, Contents, Content, MayHold, Rooms, TellsSome, unread}

-- a listing may fail
pub fails_to_list : (lists : Listings) → TellsSome (ListsOrFails lists)
fails_to_list lists = (unread, tt, inr refl)

-- what reads of a file give may be given where one of them may fail
or_fails : (gives : Contents) (rooms : Rooms) (pieces : List (List ℕ)) (stop : Stop) → gives rooms pieces stop
    → GivesOrFails gives rooms pieces stop
or_fails gives rooms pieces at_end given = given
or_fails gives rooms pieces at_neither given = given
or_fails gives rooms [] at_failure given = tt
or_fails gives rooms (piece ∷ pieces) at_failure given = inl given

-- so such a file may have the content that it has
pub held_or_fails : (gives : Contents) → (c : Content) × MayHold gives c → (c : Content) × MayHold (GivesOrFails gives) c
held_or_fails gives (c, holds) = (c, λ rooms pieces stop given. or_fails gives rooms pieces stop (holds rooms pieces stop given))

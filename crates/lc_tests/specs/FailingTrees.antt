-- What the calls of a tree may return if one of them may fail.
use Rattle.std.specs.Prelude.{◌≡◌, ℕ, ◌⊎◌, [], ◌∷◌, Err}
use Rattle.lc_io.specs.Reads.{Answer, gave, failed, at_end, at_failure, at_neither}
use Rattle.lc_tree.specs.{Trees.{Listings, Contents}, declared.read_fault.ReadFault.TheVariants.Failed}

-- a read returns what the file returns, or fails and leaves the file as it was
abbrev pub MayFail : {F : Type 0} → (F → ℕ → Answer → F → Type 0) → F → ℕ → Answer → F → Type 0
MayFail may_give old room (gave piece) new = may_give old room (gave piece) new
MayFail may_give old room failed new = may_give old room failed new ⊎ (new ≡ old)

-- a listing is the other tree's, or can't be read
abbrev pub ListsOrFails : Listings → Listings
ListsOrFails lists answer = lists answer ⊎ (answer ≡ Err Failed)

-- the reads of a file give what the other tree's give, or fail, at the first read or after some of the pieces
abbrev pub GivesOrFails : Contents → Contents
GivesOrFails gives rooms pieces at_end = gives rooms pieces at_end
GivesOrFails gives rooms pieces at_neither = gives rooms pieces at_neither
GivesOrFails gives rooms [] at_failure = Unit {0}
GivesOrFails gives rooms (piece ∷ pieces) at_failure = gives rooms (piece ∷ pieces) at_failure ⊎ gives rooms (piece ∷ pieces) at_neither

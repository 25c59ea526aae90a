-- How the fields of a pass of a board of words agree with what the pass knows and which slots it holds.
use Rattle.std.specs.Prelude.{◌≡◌, ℕ, ◌<◌, ◌≤◌, true, List, [], ◌∷◌, map, Option, Some, None}
use Rattle.lc_board.specs.{Holding.{holding, posted}, State.status, Growth.{IsTaken, rank}, WordHistory.Seated, declared.event.Event.Event}
use Rattle.lc_board.specs.declared.words.{newest.Newest.Newest, view.Slot.{Slot, TheVariants.{Empty, Job, Row}}}

-- the kind of a slot, as a number: two numbers are equal in one way only, which is not known of slots
abbrev pub kind : {J R : Type 0} → Slot J R → ℕ
kind Empty = 0
kind (Job j) = 1
kind (Row r) = 2

-- the slots that a pass holds with a claim: only the slot of the claimed number, which is empty
abbrev pub carried_as : {J R : Type 0} → Option ℕ → List (ℕ × Slot J R)
carried_as None = []
carried_as (Some i) = (i, Empty) ∷ []

-- like `carried_as`, with the kind of each slot
abbrev pub tags_as : Option ℕ → List (ℕ × ℕ)
tags_as None = []
tags_as (Some i) = (i, 0) ∷ []

abbrev pub tag : {J R : Type 0} → ℕ × Slot J R → ℕ × ℕ
tag x = (x.0, kind x.1)

-- each number below the mark has ended or is claimed, and so will never be open again
abbrev pub AreTaken : {J R : Type 0} → ℕ → List (Event J R) → Type 0
AreTaken n h = (k : ℕ) → k < n → IsTaken (status h k)

-- the number is in the list of those that the pass posted last
abbrev pub IsListed : Newest → ℕ → Type 0
IsListed newest k = (newest.start ≤ k) × (k < newest.end)

-- each number in the list has been posted
abbrev pub AreListed : {J R : Type 0} → Newest → List (Event J R) → Type 0
AreListed newest h = (k : ℕ) → IsListed newest k → 1 ≤ rank (status h k)

-- the fields of a pass agree with what the pass knows and which slots it holds
pub record IsTied {J R : Type 0} (slots worker : ℕ) (claim : Option ℕ) (posts front low : ℕ) (m : Seated J R) : Type 0 where
  pub live : m.0.live ≡ true
  pub idle : m.0.drawn ≡ 0
  pub numbered : m.0.worker ≡ worker
  pub fronted : m.0.front ≡ front
  pub lowered : m.0.low ≡ low
  pub holds : holding m.0.mine ≡ claim
  pub posts_are : posted m.0.mine ≡ posts
  pub carries : map tag m.1 ≡ tags_as claim
  pub near : posts ≤ front
  pub within : front ≤ slots
  pub inside : (i : ℕ) → claim ≡ Some i → i < slots
  pub lower : low < slots

-- The numbers that a history uses.
use Rattle.std.specs.Prelude.{◌≡◌, ℕ, ◌≤◌, ◌+◌, ◌==◌, cond, List, [], ◌∷◌, ◌↔◌}
use Rattle.lc_board.specs.{State.{Absent, status}, declared.event.Event.{Event, TheVariants.{Post, Claim, Return, Fault}}}

module _ {J R : Type 0} where
  -- the history uses the numbers from 0 to n - 1, and no others
  abbrev pub HasNumbers : ℕ → List (Event J R) → Type 0
  HasNumbers n h = (k : ℕ) → (status h k ≡ Absent) ↔ (n ≤ k)

  -- how often a number was posted
  abbrev pub posts_of : ℕ → List (Event J R) → ℕ
  posts_of k [] = 0
  posts_of k (Post w p i j ∷ h) = cond (k == i) (posts_of k h + 1) (posts_of k h)
  posts_of k (_ ∷ h) = posts_of k h

  -- how often a number was claimed
  abbrev pub claims_of : ℕ → List (Event J R) → ℕ
  claims_of k [] = 0
  claims_of k (Claim w i j ∷ h) = cond (k == i) (claims_of k h + 1) (claims_of k h)
  claims_of k (_ ∷ h) = claims_of k h

  -- how often a number was returned or faulted
  abbrev pub ends_of : ℕ → List (Event J R) → ℕ
  ends_of k [] = 0
  ends_of k (Return w i r ∷ h) = cond (k == i) (ends_of k h + 1) (ends_of k h)
  ends_of k (Fault w i r ∷ h) = cond (k == i) (ends_of k h + 1) (ends_of k h)
  ends_of k (_ ∷ h) = ends_of k h

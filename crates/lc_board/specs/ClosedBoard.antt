-- What closing a board returns, by what its passes have stored.
use Rattle.std.specs.Prelude.{◌≡◌, ◌≢◌, ℕ, ◌<◌, Bool, true, false, Option, Some, None, List, map, length, slice_get}
use Rattle.lc_board.specs.{State.{Status, Absent, Open, Claimed, Returned, Faulted, status}, Part.part, Bare.bare}
use Rattle.lc_board.specs.{LegalHistory.{IsLegal, IsOver}, Numbers.HasNumbers, RowsInPlace.InPlace, Pass.Pass, declared.event.Event.Event}
use Rattle.lc_board.specs.declared.answers.{Ended.Ended, CloseFault.CloseFault}
use Rattle.lc_board.specs.declared.answers.Ended.TheVariants as ended
use Rattle.lc_board.specs.declared.answers.CloseFault.TheVariants as close

-- the row of a number is Returned or Faulted as the number's status says; an absent number has no row
abbrev pub Shows : {R : Type 0} → Status → Option (Ended R) → Type 0
Shows s None = s ≡ Absent
Shows s (Some (ended.Returned r)) = s ≡ Returned
Shows s (Some (ended.Faulted r)) = s ≡ Faulted

-- the number is open or claimed
abbrev pub IsUnended : Status → Type 0
IsUnended Open = Unit {0}
IsUnended (Claimed w) = Unit {0}
IsUnended _ = ⊥

-- what a type of board promises of `close`: `keeps`, that each row is at the index of its number; `compares`, that the board has stored a
-- history and compares it with the passes; `fills`, that a post returns Full only if all numbers are used
pub record Promises : Type 0 where
  pub keeps : Bool
  pub compares : Bool
  pub fills : Bool

module _ {J R : Type 0} where
  -- each worker's events in the history are the events of the worker's pass
  abbrev pub HasParts : List (Event J R) → List (Pass J R) → Type 0
  HasParts h passes = (w : ℕ) (p : Pass J R) → slice_get passes w ≡ Some p → part w h ≡ p.mine

  -- some legal history that is over has the events of each pass as the part of its worker; each of its numbers has one row
  pub record Settled (capacity workers : ℕ) (root : J) (promises : Promises)
      (passes : List (Pass J R)) (rows : List (Ended R)) : Type 0 where
    pub history : List (Event J R)
    pub legal : IsLegal capacity workers history
    pub over : IsOver history
    pub parts : HasParts history passes
    pub numbers : HasNumbers (length rows) history
    pub shown : (k : ℕ) → Shows (status history k) (slice_get rows k)
    pub in_place : promises.keeps ≡ true → InPlace root history rows
    pub all_used : promises.fills ≡ true
        → (w : ℕ) (p : Pass J R) → slice_get passes w ≡ Some p → p.full ≡ true → length rows ≡ capacity

  -- after some legal history this number is open or claimed, and no number below it is; if the board compares nothing, the history's parts
  -- are the passes' events
  pub record Unfinished (capacity workers n : ℕ) (promises : Promises) (passes : List (Pass J R)) : Type 0 where
    pub history : List (Event J R)
    pub legal : IsLegal capacity workers history
    pub left : IsUnended (status history n)
    pub least : (k : ℕ) → k < n → ¬ IsUnended (status history k)
    pub parts : promises.compares ≡ false → HasParts history passes

  -- in some legal history that is over, this worker's events differ from the events of the worker's pass
  pub record Differs (capacity workers w : ℕ) (passes : List (Pass J R)) : Type 0 where
    pub history : List (Event J R)
    pub legal : IsLegal capacity workers history
    pub over : IsOver history
    pub pass : Pass J R
    pub its : slice_get passes w ≡ Some pass
    pub differs : map bare (part w history) ≢ map bare pass.mine

  -- some legal history that is over has the events of each pass as the part of its worker
  pub record Finished (capacity workers : ℕ) (passes : List (Pass J R)) : Type 0 where
    pub history : List (Event J R)
    pub legal : IsLegal capacity workers history
    pub over : IsOver history
    pub parts : HasParts history passes

  -- why a board is not closed
  abbrev pub RefusesClose : ℕ → ℕ → Promises → List (Pass J R) → CloseFault → Type 0
  RefusesClose capacity workers promises passes (close.Unfinished n) = Unfinished capacity workers n promises passes
  RefusesClose capacity workers promises passes (close.Mismatch w) = (promises.compares ≡ true) × Differs capacity workers w passes
  RefusesClose capacity workers promises passes close.Memory = promises.compares ≡ false → Finished capacity workers passes

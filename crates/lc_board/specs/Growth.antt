-- How a history goes on, and how far the status of a number has come.
use Rattle.std.specs.Prelude.{◌≡◌, ℕ, ◌≤◌, ◌==◌, cond, List, [], ◌∷◌, ◌++◌, Option, Some, None}
use Rattle.lc_board.specs.{State.{Status, Absent, Open, Claimed, Returned, Faulted}, declared.event.Event.Event}
use Rattle.lc_board.specs.declared.event.Event.TheVariants.{Post, Claim}

-- the first history goes on from the second one: its oldest events are the second history
abbrev pub GoesOn : {E : Type 0} → List E → List E → Type 0
GoesOn {E} h g = (rest : List E) × (h ≡ rest ++ g)

-- how far the status of a number has come: a number's rank never decreases
abbrev pub rank : Status → ℕ
rank Absent = 0
rank Open = 1
rank (Claimed w) = 2
rank Returned = 3
rank Faulted = 3

abbrev pub IsEnded : Status → Type 0
IsEnded s = rank s ≡ 3

-- the number has ended or is claimed, and so will never be open again
abbrev pub IsTaken : Status → Type 0
IsTaken s = 2 ≤ rank s

-- the function s, but with the value a at the number i
abbrev pub put : {A : Type 0} → (ℕ → A) → ℕ → A → ℕ → A
put s i a k = cond (k == i) a (s k)

module _ {J R : Type 0} where
  -- the job posted at a number; at 0 it is the root's
  abbrev pub job_at : Option J → List (Event J R) → ℕ → Option J
  job_at root [] k = cond (k == 0) root None
  job_at root (Post w p i j ∷ h) k = cond (k == i) (Some j) (job_at root h k)
  job_at root (_ ∷ h) k = job_at root h k

  -- if the event is a claim, its job is the job that was posted at the claimed number
  abbrev pub IsRight : Option J → List (Event J R) → Event J R → Type 0
  IsRight root h (Claim w i j) = job_at root h i ≡ Some j
  IsRight root h _ = Unit {0}

  abbrev pub IsMatched : Option J → List (Event J R) → Type 0
  IsMatched root [] = Unit {0}
  IsMatched root (e ∷ h) = IsMatched root h × IsRight root h e

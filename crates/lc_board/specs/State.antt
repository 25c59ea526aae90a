-- The state of the sequential board: what each number is after a history. A history is a list of events, its newest first.
use Rattle.std.specs.Prelude.{ℕ, ◌==◌, cond, List, [], ◌∷◌}
use Rattle.lc_board.specs.declared.event.Event.{Event, TheVariants.{Post, Claim, Return, Fault, Over}}

-- the status of a number; an absent number is not in use
pub data Status : Type 0 where
  Absent : Status
  Open : Status
  Claimed : ℕ → Status
  Returned : Status
  Faulted : Status

-- the status of a number after a history; at the start number 0 is open, and all other numbers are absent
abbrev pub status : {J R : Type 0} → List (Event J R) → ℕ → Status
status [] k = cond (k == 0) Open Absent
status (Post w p i j ∷ h) k = cond (k == i) Open (status h k)
status (Claim w i j ∷ h) k = cond (k == i) (Claimed w) (status h k)
status (Return w i r ∷ h) k = cond (k == i) Returned (status h k)
status (Fault w i r ∷ h) k = cond (k == i) Faulted (status h k)
status (Over w ∷ h) k = status h k

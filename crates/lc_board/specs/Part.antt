-- The worker of an event, and a worker's part of a history.
use Rattle.std.specs.Prelude.{ℕ, ◌==◌, cond, List, [], ◌∷◌}
use Rattle.lc_board.specs.declared.event.Event.{Event, TheVariants.{Post, Claim, Return, Fault, Over}}

module _ {J R : Type 0} where
  -- the worker that made the event
  abbrev pub worker_of : Event J R → ℕ
  worker_of (Post w p i j) = w
  worker_of (Claim w i j) = w
  worker_of (Return w i r) = w
  worker_of (Fault w i r) = w
  worker_of (Over w) = w

  -- the events of one worker, in their order
  abbrev pub part : ℕ → List (Event J R) → List (Event J R)
  part w [] = []
  part w (e ∷ h) = cond (worker_of e == w) (e ∷ part w h) (part w h)

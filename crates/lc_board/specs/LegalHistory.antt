-- Which events are allowed after a history, and legal histories.
--
-- event            allowed where                                               then
-- Post w p i       w has claimed p; i is absent, below the capacity, above p   i is open
-- Claim w i        i is open, and w has claimed nothing                        i is claimed by w
-- Return w i       w has claimed i                                             i is returned
-- Fault w i        w has claimed i, and nothing was posted under it            i is faulted
-- Over w           no number is open or claimed                                nothing changes
use Rattle.std.specs.Prelude.{◌≡◌, ◌≢◌, ℕ, ◌<◌, ◌==◌, cond, List, [], ◌∷◌, ◌++◌}
use Rattle.lc_board.specs.{State.{Absent, Open, Claimed, status}, Part.worker_of, declared.event.Event.Event}
use Rattle.lc_board.specs.declared.event.Event.TheVariants.{Post, Claim, Return, Fault, Over}

module _ {J R : Type 0} where
  -- the posts under the claim of a number, the oldest first: each posted number with its job
  abbrev pub posts_under : ℕ → List (Event J R) → List (ℕ × J)
  posts_under p [] = []
  posts_under p (Post w q i j ∷ h) = cond (p == q) (posts_under p h ++ (i, j) ∷ []) (posts_under p h)
  posts_under p (_ ∷ h) = posts_under p h

  -- the worker has claimed nothing
  abbrev pub IsIdle : ℕ → List (Event J R) → Type 0
  IsIdle w h = (k : ℕ) → status h k ≢ Claimed w

  -- no number is open or claimed
  abbrev pub IsOver : List (Event J R) → Type 0
  IsOver h = (k : ℕ) → (status h k ≢ Open) × ((w : ℕ) → status h k ≢ Claimed w)

  -- which events are allowed after a history: the table above
  abbrev pub IsAllowed : ℕ → List (Event J R) → Event J R → Type 0
  IsAllowed capacity h (Post w p i j) = (status h p ≡ Claimed w) × (status h i ≡ Absent) × (i < capacity) × (p < i)
  IsAllowed capacity h (Claim w i j) = (status h i ≡ Open) × IsIdle w h
  IsAllowed capacity h (Return w i r) = status h i ≡ Claimed w
  IsAllowed capacity h (Fault w i r) = (status h i ≡ Claimed w) × (posts_under i h ≡ [])
  IsAllowed capacity h (Over w) = IsOver h

  -- each event is by one of the workers, and is allowed after the events before it
  abbrev pub IsLegal : ℕ → ℕ → List (Event J R) → Type 0
  IsLegal capacity workers [] = Unit {0}
  IsLegal capacity workers (e ∷ h) = IsLegal capacity workers h × (worker_of e < workers) × IsAllowed capacity h e

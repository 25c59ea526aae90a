-- What the events of one worker say of its present claim.
use Rattle.std.specs.Prelude.{ℕ, ◌+◌, List, [], ◌∷◌, ◌++◌, Option, Some, None}
use Rattle.lc_board.specs.declared.event.Event.{Event, TheVariants.{Post, Claim, Return, Fault, Over}}

module _ {J R : Type 0} where
  -- the number that the worker has claimed and not ended
  abbrev pub holding : List (Event J R) → Option ℕ
  holding [] = None
  holding (Post w p i j ∷ m) = holding m
  holding (Claim w i j ∷ m) = Some i
  holding (Return w i r ∷ m) = None
  holding (Fault w i r ∷ m) = None
  holding (Over w ∷ m) = holding m

  -- how many jobs the worker has posted since that claim
  abbrev pub posted : List (Event J R) → ℕ
  posted [] = 0
  posted (Post w p i j ∷ m) = posted m + 1
  posted (Over w ∷ m) = posted m
  posted (_ ∷ m) = 0

  -- the job of the present claim
  abbrev pub job_held : List (Event J R) → Option J
  job_held [] = None
  job_held (Post w p i j ∷ m) = job_held m
  job_held (Claim w i j ∷ m) = Some j
  job_held (Return w i r ∷ m) = None
  job_held (Fault w i r ∷ m) = None
  job_held (Over w ∷ m) = job_held m

  -- the posts under the present claim, the oldest first: each posted number with its job
  abbrev pub posts_held : List (Event J R) → List (ℕ × J)
  posts_held [] = []
  posts_held (Post w p i j ∷ m) = posts_held m ++ (i, j) ∷ []
  posts_held (Over w ∷ m) = posts_held m
  posts_held (_ ∷ m) = []

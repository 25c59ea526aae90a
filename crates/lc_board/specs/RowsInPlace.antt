-- What a history says about a number: the job posted there, the job that its claim got, and the row that ended it. Rows at the indexes of
-- their numbers.
use Rattle.std.specs.Prelude.{◌≡◌, ℕ, ◌==◌, cond, List, [], ◌∷◌, slice_get, Option, Some, None}
use Rattle.lc_board.specs.declared.{event.Event.{Event, TheVariants.{Post, Claim, Return, Fault}}, answers.Ended.Ended}
use Rattle.lc_board.specs.declared.answers.Ended.TheVariants as ended

module _ {J R : Type 0} where
  -- the job posted at a number; at 0 it is the root's
  abbrev pub job_posted : J → List (Event J R) → ℕ → Option J
  job_posted root [] k = cond (k == 0) (Some root) None
  job_posted root (Post w p i j ∷ h) k = cond (k == i) (Some j) (job_posted root h k)
  job_posted root (_ ∷ h) k = job_posted root h k

  -- the job that the claim of a number got
  abbrev pub job_got : List (Event J R) → ℕ → Option J
  job_got [] k = None
  job_got (Claim w i j ∷ h) k = cond (k == i) (Some j) (job_got h k)
  job_got (_ ∷ h) k = job_got h k

  -- the row given by the event that ended a number
  abbrev pub row_given : List (Event J R) → ℕ → Option (Ended R)
  row_given [] k = None
  row_given (Return w i r ∷ h) k = cond (k == i) (Some (ended.Returned r)) (row_given h k)
  row_given (Fault w i r ∷ h) k = cond (k == i) (Some (ended.Faulted r)) (row_given h k)
  row_given (_ ∷ h) k = row_given h k

  -- each row is at the index of the number that it ended, and the claim of that number got the job that was posted there
  pub record InPlace (root : J) (h : List (Event J R)) (rows : List (Ended R)) : Type 0 where
    pub given : (k : ℕ) → slice_get rows k ≡ row_given h k
    pub handed : (k : ℕ) (e : Ended R) → slice_get rows k ≡ Some e → job_got h k ≡ job_posted root h k

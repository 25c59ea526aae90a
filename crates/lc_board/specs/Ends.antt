-- The ends of claims in a history: which numbers ended, with which rows and by which workers, and statements about each end.
use Rattle.std.specs.Prelude.{◌≡◌, ℕ, ◌<◌, ◌==◌, cond, List, [], ◌∷◌, map, slice_get, Option, Some}
use Rattle.lc_board.specs.{Part.part, LegalHistory.posts_under, Holding.{job_held, posts_held}, RowsInPlace.{job_got, row_given}, Pass.Pass}
use Rattle.lc_board.specs.declared.{event.Event.{Event, TheVariants.{Return, Fault}}, answers.Ended.Ended}
use Rattle.lc_board.specs.declared.answers.Ended.TheVariants as ended

-- a statement about the end of a claim: about its worker, the job and the posts of the claim, its row, and a witness
abbrev pub Saying : Type 0 → Type 0 → Type 0 → Type 1
Saying J R A = ℕ → Option J → List (ℕ × J) → Ended R → A → Type 0

module _ {J R : Type 0} where
  -- the numbers that ended, each with its row, the newest first
  abbrev pub ends : List (Event J R) → List (ℕ × Ended R)
  ends [] = []
  ends (Return w i r ∷ h) = (i, ended.Returned r) ∷ ends h
  ends (Fault w i r ∷ h) = (i, ended.Faulted r) ∷ ends h
  ends (_ ∷ h) = ends h

  -- the worker that ended a number
  abbrev pub ender : List (Event J R) → ℕ → ℕ
  ender [] k = 0
  ender (Return w i r ∷ h) k = cond (k == i) w (ender h k)
  ender (Fault w i r ∷ h) k = cond (k == i) w (ender h k)
  ender (_ ∷ h) k = ender h k

  -- P holds for each end among a worker's events: for the job and the posts of the claim, its row, and one witness; the newest end is first
  abbrev pub EachEnd : {A : Type 0}
      → (Option J → List (ℕ × J) → Ended R → A → Type 0) → List (Event J R) → List A → Type 0
  EachEnd P [] [] = Unit {0}
  EachEnd P [] (a ∷ given) = ⊥
  EachEnd P (Return w i r ∷ m) [] = ⊥
  EachEnd P (Return w i r ∷ m) (a ∷ given) = P (job_held m) (posts_held m) (ended.Returned r) a × EachEnd P m given
  EachEnd P (Fault w i r ∷ m) [] = ⊥
  EachEnd P (Fault w i r ∷ m) (a ∷ given) = P (job_held m) (posts_held m) (ended.Faulted r) a × EachEnd P m given
  EachEnd P (_ ∷ m) given = EachEnd P m given

  -- P holds for each number that ended, by what the whole history says about the number, and with the number's witness; a worker's
  -- witnesses are the witnesses of the numbers that the worker ended
  pub record EndsHold {A : Type 0} (P : Saying J R A) (workers : ℕ) (h : List (Event J R)) (given : ℕ → List A) : Type 0 where
    pub by : ℕ → A
    pub holds : (i : ℕ) (e : Ended R) → row_given h i ≡ Some e → P (ender h i) (job_got h i) (posts_under i h) e (by i)
    pub given_by : (w : ℕ) → w < workers → given w ≡ map (λ x. by x.0) (ends (part w h))

  -- like `EndsHold`, for the rows of a closed board: P holds for each row, and the witnesses of a pass are the witnesses of the numbers
  -- that its worker ended
  pub record RowsHold {A : Type 0} (P : Saying J R A) (workers : ℕ) (h : List (Event J R))
      (passes : List (Pass J R)) (rows : List (Ended R)) (given : ℕ → List A) : Type 0 where
    pub by : ℕ → A
    pub ender_is : (i : ℕ) (e : Ended R) → slice_get rows i ≡ Some e → ender h i < workers
    pub holds : (i : ℕ) (e : Ended R) → slice_get rows i ≡ Some e → P (ender h i) (job_got h i) (posts_under i h) e (by i)
    pub given_by : (w : ℕ) (p : Pass J R) → slice_get passes w ≡ Some p → given w ≡ map (λ x. by x.0) (ends p.mine)

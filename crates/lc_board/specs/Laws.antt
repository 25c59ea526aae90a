-- What holds of every legal history.
use Rattle.std.specs.Prelude.{◌≡◌, ◌≢◌, ℕ, ◌≤◌, List, [], ◌∷◌, length, IsPermutation, flat_map, sum_by, Option, Some, None, ◌↔◌}
use Rattle.std.specs.List.{enumerate_from, range_with_len}
use Rattle.lc_board.specs.{State.{Status, Absent, Open, Claimed, Returned, Faulted, status}, Part.part}
use Rattle.lc_board.specs.{LegalHistory.{posts_under, IsLegal, IsOver}, Holding.{holding, posted, job_held, posts_held}}
use Rattle.lc_board.specs.{RowsInPlace.{job_got, row_given, InPlace}, Numbers.{HasNumbers, posts_of, claims_of, ends_of}, Ends.ends}
use Rattle.lc_board.specs.{Growth.GoesOn, declared.{event.Event.{Event, TheVariants.Over}, answers.Ended.Ended}}
use Rattle.lc_board.specs.declared.answers.Ended.TheVariants as ended

-- how often a number was posted, claimed and ended, by its status
abbrev pub Counts : Status → (posts claims ends : ℕ) → Type 0
Counts Absent posts claims ends = (posts ≡ 0) × (claims ≡ 0) × (ends ≡ 0)
Counts Open posts claims ends = (posts ≤ 1) × (claims ≡ 0) × (ends ≡ 0)
Counts (Claimed w) posts claims ends = (posts ≤ 1) × (claims ≡ 1) × (ends ≡ 0)
Counts Returned posts claims ends = (posts ≤ 1) × (claims ≡ 1) × (ends ≡ 1)
Counts Faulted posts claims ends = (posts ≤ 1) × (claims ≡ 1) × (ends ≡ 1)

module _ {J R : Type 0} where
  -- nothing was posted under a number, and the number was neither claimed nor ended
  pub record IsFresh (i : ℕ) (h : List (Event J R)) : Type 0 where
    pub posts : posts_under i h ≡ []
    pub got : job_got h i ≡ None
    pub given : row_given h i ≡ None

  -- two histories agree about a number: about the posts under it, the job that its claim got, and the row that ended it
  pub record SaysSame (i : ℕ) (h g : List (Event J R)) : Type 0 where
    pub posts : posts_under i g ≡ posts_under i h
    pub got : job_got g i ≡ job_got h i
    pub given : row_given g i ≡ row_given h i

  -- a worker's part of a history agrees with the whole history about the worker's present claim
  pub record HoldsAs (w : ℕ) (h : List (Event J R)) : Type 0 where
    pub claimed : (i : ℕ) → (holding (part w h) ≡ Some i) ↔ (status h i ≡ Claimed w)
    pub posts : (i : ℕ) → status h i ≡ Claimed w → posted (part w h) ≡ length (posts_under i h)
    pub job_is : (i : ℕ) → status h i ≡ Claimed w → job_held (part w h) ≡ job_got h i
    pub posts_are : (i : ℕ) → status h i ≡ Claimed w → posts_held (part w h) ≡ posts_under i h

-- a number is posted at most once, claimed at most once, and ended at most once
abbrev pub NumbersOnce : Type 0 → Type 0 → Type 0
NumbersOnce J R = (capacity workers : ℕ) (h : List (Event J R)) → IsLegal capacity workers h → (k : ℕ)
    → Counts (status h k) (posts_of k h) (claims_of k h) (ends_of k h)

-- about a number that a worker claimed, the worker's part of a history agrees with the whole history
abbrev pub PartSaysWhole : Type 0 → Type 0 → Type 0
PartSaysWhole J R = (capacity workers : ℕ) (h : List (Event J R)) → IsLegal capacity workers h
    → (w i : ℕ) (j : J) → job_got (part w h) i ≡ Some j → SaysSame i h (part w h)

-- a worker's part of a history determines which number the worker has claimed, with which job, and what was posted under that claim
abbrev pub PartTellsClaim : Type 0 → Type 0 → Type 0
PartTellsClaim J R = (capacity workers : ℕ) (h : List (Event J R)) → IsLegal capacity workers h → (w : ℕ) → HoldsAs w h

-- the worker's part of a history counts no posts under its claim exactly if the whole history lists none
abbrev pub PostedNothing : Type 0 → Type 0 → Type 0
PostedNothing J R = (capacity workers : ℕ) (h : List (Event J R)) → IsLegal capacity workers h → (w i : ℕ)
    → status h i ≡ Claimed w → (posted (part w h) ≡ 0) ↔ (posts_under i h ≡ [])

-- a history in which the last event of some worker is Over is over
abbrev pub OverStays : Type 0 → Type 0 → Type 0
OverStays J R = (capacity workers : ℕ) (h : List (Event J R)) → IsLegal capacity workers h
    → (w : ℕ) (m : List (Event J R)) → part w h ≡ Over w ∷ m → IsOver h

-- the row that ended a number, by the number's status
abbrev pub GivenAs : {R : Type 0} → Status → Option (Ended R) → Type 0
GivenAs Absent o = o ≡ None
GivenAs Open o = o ≡ None
GivenAs (Claimed w) o = o ≡ None
GivenAs {R} Returned o = (r : R) × (o ≡ Some (ended.Returned r))
GivenAs {R} Faulted o = (r : R) × (o ≡ Some (ended.Faulted r))

-- a number has a row exactly if it has ended; the row is returned or faulted, like the number
abbrev pub EndedHasRow : Type 0 → Type 0 → Type 0
EndedHasRow J R = (capacity workers : ℕ) (h : List (Event J R)) → IsLegal capacity workers h → (k : ℕ)
    → GivenAs (status h k) (row_given h k)

-- the posts, the job and the row of a number that has ended stay the same, however the history goes on
abbrev pub EndedStays : Type 0 → Type 0 → Type 0
EndedStays J R = (capacity workers : ℕ) (h g : List (Event J R)) → IsLegal capacity workers h → GoesOn h g
    → (i : ℕ) (r : Ended R) → row_given g i ≡ Some r → SaysSame i g h

-- number 0 was never posted, and each other number in use was posted once
abbrev pub PostedOnce : Type 0 → Type 0 → Type 0
PostedOnce J R = (capacity workers : ℕ) (h : List (Event J R)) → IsLegal capacity workers h
    → (posts_of 0 h ≡ 0) × ((k : ℕ) → k ≢ 0 → status h k ≢ Absent → posts_of k h ≡ 1)

-- a history that is legal under a capacity is legal under a larger capacity too
abbrev pub StaysLegal : Type 0 → Type 0 → Type 0
StaysLegal J R = (capacity larger workers : ℕ) (h : List (Event J R)) → capacity ≤ larger
    → IsLegal capacity workers h → IsLegal larger workers h

-- there are no more numbers, and no more ends, than the capacity, which is at least 1
abbrev pub FewNumbers : Type 0 → Type 0 → Type 0
FewNumbers J R = (capacity workers n : ℕ) (h : List (Event J R)) → 1 ≤ capacity → IsLegal capacity workers h → HasNumbers n h → n ≤ capacity

abbrev pub FewEnds : Type 0 → Type 0 → Type 0
FewEnds J R = (capacity workers : ℕ) (h : List (Event J R)) → 1 ≤ capacity → IsLegal capacity workers h → length (ends h) ≤ capacity

-- the ends of all workers are, in some order, the rows at the indexes of their numbers
abbrev pub RowsAreEnds : Type 0 → Type 0 → Type 0
RowsAreEnds J R = (capacity workers : ℕ) (root : J) (h : List (Event J R)) (rows : List (Ended R))
    → IsLegal capacity workers h → IsOver h → HasNumbers (length rows) h → InPlace root h rows
    → IsPermutation (flat_map (λ w. ends (part w h)) (range_with_len 0 workers)) (enumerate_from 0 rows)

-- a sum over the rows in place is the sum of the workers' own sums
abbrev pub SumsOfRows : Type 0 → Type 0 → Type 0
SumsOfRows J R = (capacity workers : ℕ) (root : J) (h : List (Event J R)) (rows : List (Ended R))
    → IsLegal capacity workers h → IsOver h → HasNumbers (length rows) h → InPlace root h rows
    → (f : ℕ × Ended R → ℕ) → sum_by f (enumerate_from 0 rows) ≡ sum_by (λ w. sum_by f (ends (part w h))) (range_with_len 0 workers)

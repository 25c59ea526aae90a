-- What contracts see of a single-threaded board, and after which histories the board has a state.
use Rattle.std.specs.Prelude.{◌≡◌, ℕ, List, [], ◌∷◌, length, slice_get, slice_index_or, replicate, Option, Some, None}
use Rattle.lc_board.specs.{State.{Status, Absent, Open, Claimed, Returned, Faulted, status}, LegalHistory.{posts_under, IsLegal}}
use Rattle.lc_board.specs.{RowsInPlace.{job_posted, job_got, row_given}, declared.{event.Event.Event, plain.cell.Cell.Cell}}
use Rattle.lc_board.specs.declared.{plain.cell.Cell.TheVariants.{Waiting, Held, Done}, answers.Ended.Ended}
use Rattle.lc_board.specs.declared.answers.Ended.TheVariants as ended

-- the board: its capacity, for each worker the number that the worker has claimed, and for each number its cell
pub record Board (J R : Type 0) : Type 0 where
  pub capacity : ℕ
  pub held : List (Option ℕ)
  pub cells : List (Cell J R)

abbrev pub status_ended : {R : Type 0} → Ended R → Status
status_ended (ended.Returned r) = Returned
status_ended (ended.Faulted r) = Faulted

module _ {J R : Type 0} where
  abbrev pub workers_of : Board J R → ℕ
  workers_of b = length b.held

  -- all numbers are used
  abbrev pub IsFull : Board J R → Type 0
  IsFull b = length b.cells ≡ b.capacity

  -- the number that a worker has claimed
  abbrev pub held_by : Board J R → ℕ → Option ℕ
  held_by b w = slice_index_or b.held w None

  abbrev pub cell_at : Board J R → ℕ → Option (Cell J R)
  cell_at b k = slice_get b.cells k

  abbrev pub posts_in : Option (Cell J R) → ℕ
  posts_in (Some (Held w n)) = n
  posts_in _ = 0

  abbrev pub posts_at : Board J R → Option ℕ → ℕ
  posts_at b None = 0
  posts_at b (Some i) = posts_in (cell_at b i)

  -- how many jobs a worker has posted under its present claim
  abbrev pub posts_by : Board J R → ℕ → ℕ
  posts_by b w = posts_at b (held_by b w)

  -- the cell of a number agrees with the history about the number's status, posts, job and row
  abbrev pub IsCellOf : J → List (Event J R) → ℕ → Option (Cell J R) → Type 0
  IsCellOf root h k None = (status h k ≡ Absent) × (posts_under k h ≡ []) × (row_given h k ≡ None)
  IsCellOf root h k (Some (Waiting j)) = (status h k ≡ Open) × (posts_under k h ≡ []) × (row_given h k ≡ None)
      × (job_posted root h k ≡ Some j)
  IsCellOf root h k (Some (Held w n)) = (status h k ≡ Claimed w) × (length (posts_under k h) ≡ n) × (row_given h k ≡ None)
      × (job_got h k ≡ job_posted root h k)
  IsCellOf root h k (Some (Done e)) = (status h k ≡ status_ended e) × (row_given h k ≡ Some e) × (job_got h k ≡ job_posted root h k)

  -- the board has the state after the history, which is legal
  pub record IsAfter (root : J) (h : List (Event J R)) (b : Board J R) : Type 0 where
    pub legal : IsLegal b.capacity (workers_of b) h
    pub fits : (k : ℕ) → IsCellOf root h k (cell_at b k)

  -- the event leads from the old board to the new one: after any history that led to the old board, the history with this event leads to
  -- the new board
  pub record Adds (old : Board J R) (e : Event J R) (new : Board J R) : Type 0 where
    pub capacity : new.capacity ≡ old.capacity
    pub workers : length new.held ≡ length old.held
    pub goes_on : (root : J) (h : List (Event J R)) → IsAfter root h old → IsAfter root (e ∷ h) new

  -- the board before the first event
  abbrev pub first_board : ℕ → ℕ → J → Board J R
  first_board capacity workers root = record { capacity = capacity; held = replicate workers None; cells = Waiting root ∷ [] }

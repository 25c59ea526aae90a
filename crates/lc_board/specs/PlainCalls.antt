-- What the calls of a single-threaded board return.
use Rattle.std.specs.Prelude.{◌≡◌, ℕ, ◌<◌, length, slice_set, Option, Some, Result, Ok, Err, IfSome}
use Rattle.lc_board.specs.{PlainBoard.{Board, held_by, cell_at, Adds}, declared.plain.cell.Cell.{Cell, TheVariants.{Waiting, Held, Done}}}
use Rattle.lc_board.specs.declared.answers.{Ended.Ended, Claim.Claim, CloseFault.CloseFault, PostFault.PostFault}
use Rattle.lc_board.specs.declared.event.Event.TheVariants as event
use Rattle.lc_board.specs.declared.answers.Claim.TheVariants as answer
use Rattle.lc_board.specs.declared.answers.CloseFault.TheVariants as close
use Rattle.lc_board.specs.declared.answers.PostFault.TheVariants as refusal

abbrev pub cell_of : {J R : Type 0} → Ended R → Cell J R
cell_of e = Done e

module _ {J R : Type 0} where
  abbrev pub IsOpen : Option (Cell J R) → Type 0
  IsOpen (Some (Waiting j)) = Unit {0}
  IsOpen _ = ⊥

  abbrev pub IsHeld : Option (Cell J R) → Type 0
  IsHeld (Some (Held w n)) = Unit {0}
  IsHeld _ = ⊥

  -- the number is open or claimed
  abbrev pub IsPending : Option (Cell J R) → Type 0
  IsPending (Some (Waiting j)) = Unit {0}
  IsPending (Some (Held w n)) = Unit {0}
  IsPending _ = ⊥

  abbrev pub NoneOpen : Board J R → Type 0
  NoneOpen b = (k : ℕ) → ¬ IsOpen (cell_at b k)

  abbrev pub NoneHeld : Board J R → Type 0
  NoneHeld b = (k : ℕ) → ¬ IsHeld (cell_at b k)

  abbrev pub NonePending : Board J R → Type 0
  NonePending b = (k : ℕ) → ¬ IsPending (cell_at b k)

  -- the least open number, with its job
  pub record IsLeastOpen (b : Board J R) (i : ℕ) (j : J) : Type 0 where
    pub here : cell_at b i ≡ Some (Waiting j)
    pub least : (k : ℕ) → k < i → ¬ IsOpen (cell_at b k)

  -- the least number that is open or claimed
  abbrev pub IsLeastPending : Board J R → ℕ → Type 0
  IsLeastPending b n = IsPending (cell_at b n) × ((k : ℕ) → k < n → ¬ IsPending (cell_at b k))

  -- what a claim of a worker returns: the least open number; or Later if no number is open and some number is claimed; or Over
  abbrev pub AnswersClaim : ℕ → Board J R → Claim J → Board J R → Type 0
  AnswersClaim w old (answer.Got i j) new = IsLeastOpen old i j × Adds old (event.Claim w i j) new
      × (new.held ≡ slice_set old.held w (Some i))
  AnswersClaim w old answer.Later new = NoneOpen old × ((k : ℕ) × IsHeld (cell_at old k)) × (new ≡ old)
  AnswersClaim w old answer.Over new = NoneOpen old × NoneHeld old × Adds old (event.Over w) new × (new ≡ old)
  AnswersClaim w old answer.Memory new = ⊥

  -- what a post of a worker returns: the least unused number; or a refusal, which returns the job and changes nothing
  abbrev pub AnswersPost : ℕ → Board J R → J → Result ℕ (PostFault J) → Board J R → Type 0
  AnswersPost w old j (Ok i) new = (i ≡ length old.cells) × IfSome (held_by old w) (λ p. Adds old (event.Post w p i j) new)
      × (new.held ≡ old.held)
  AnswersPost w old j (Err (refusal.Full k)) new = (k ≡ j) × (length old.cells ≡ old.capacity) × (new ≡ old)
  AnswersPost w old j (Err (refusal.Memory k)) new = (k ≡ j) × (length old.cells < old.capacity) × (new ≡ old)

  -- why the board returns no rows
  abbrev pub RefusesRows : Board J R → CloseFault → Type 0
  RefusesRows b (close.Unfinished n) = IsLeastPending b n
  RefusesRows b (close.Mismatch w) = ⊥
  RefusesRows b close.Memory = NonePending b

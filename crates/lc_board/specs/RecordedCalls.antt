-- What the calls of the board under a lock return.
use Rattle.std.specs.Prelude.{◌≡◌, ◌≢◌, ℕ, ◌<◌, Bool, true, false, List, ◌∷◌, map, Some, None, Result, Ok, Err, slice_get}
use Rattle.lc_board.specs.{Part.part, Bare.bare, PlainBoard.{Board, IsFull, workers_of, held_by, posts_by, Adds}, PlainCalls.AnswersClaim}
use Rattle.lc_board.specs.{PlainCalls.{AnswersPost, IsLeastPending, NonePending}, Pass.Pass, ClosedBoard.Promises, RecordedBoard.Record}
use Rattle.lc_board.specs.declared.{event.Event.Event, answers.{Claim.Claim, CloseFault.CloseFault, PostFault.PostFault}}
use Rattle.lc_board.specs.declared.event.Event.TheVariants as event
use Rattle.lc_board.specs.declared.answers.Claim.TheVariants as answer
use Rattle.lc_board.specs.declared.answers.CloseFault.TheVariants as close
use Rattle.lc_board.specs.declared.answers.PostFault.TheVariants as refusal

-- closing a locked board compares its history with the passes, and promises no more
abbrev pub locked_promises : Promises
locked_promises = record { keeps = false; compares = true; fills = false }

module _ {J R : Type 0} where
  -- the event leads from the old board to the new one, and is added to the history
  pub record Records (old : Record J R) (e : Event J R) (new : Record J R) : Type 0 where
    pub adds : Adds old.board e new.board
    pub history : new.history ≡ bare e ∷ old.history

  -- w is a worker of the board and has claimed nothing
  abbrev pub MayClaim : ℕ → Board J R → Type 0
  MayClaim w b = (w < workers_of b) × (held_by b w ≡ None)

  -- w is a worker of the board and has claimed the number p
  abbrev pub Holds : ℕ → ℕ → Board J R → Type 0
  Holds w p b = (w < workers_of b) × (held_by b w ≡ Some p)

  -- a claim returns what the single-threaded board returns, or Memory, if the worker may claim; otherwise Later. Later and Memory change
  -- nothing
  abbrev pub RecordsClaim : ℕ → Record J R → Claim J → Record J R → Type 0
  RecordsClaim w old (answer.Got i j) new = AnswersClaim w old.board (answer.Got i j) new.board × Records old (event.Claim w i j) new
  RecordsClaim w old answer.Later new = (new ≡ old) × (MayClaim w old.board → AnswersClaim w old.board answer.Later old.board)
  RecordsClaim w old answer.Over new = AnswersClaim w old.board answer.Over new.board × Records old (event.Over w) new
  RecordsClaim w old answer.Memory new = (new ≡ old) × MayClaim w old.board

  -- a post returns what the single-threaded board returns, if the worker has claimed the parent; otherwise Full. A refusal changes nothing,
  -- and Memory is returned only if an unused number is left
  abbrev pub RecordsPost : ℕ → ℕ → Record J R → J → Result ℕ (PostFault J) → Record J R → Type 0
  RecordsPost w p old j (Ok i) new = AnswersPost w old.board j (Ok i) new.board × Records old (event.Post w p i j) new
  RecordsPost w p old j (Err (refusal.Full k)) new = (k ≡ j) × (new ≡ old)
      × (Holds w p old.board → AnswersPost w old.board j (Err (refusal.Full k)) old.board)
  RecordsPost w p old j (Err (refusal.Memory k)) new = (k ≡ j) × (new ≡ old) × Holds w p old.board × ¬ IsFull old.board

  -- the event is recorded and the claim ended; or the worker may not end the claim, and nothing changes
  abbrev pub RecordsEnd : Type 0 → Record J R → Event J R → Bool → Record J R → Type 0
  RecordsEnd may old e true new = Records old e new
  RecordsEnd may old e false new = (new ≡ old) × ¬ may

  -- w is a worker that has claimed the number p and has posted nothing under the claim
  abbrev pub MayFault : ℕ → ℕ → Board J R → Type 0
  MayFault w p b = Holds w p b × (posts_by b w ≡ 0)

  -- only memory for the rows is missing: no number is open or claimed, and the history agrees with each pass
  pub record IsReady (r : Record J R) (passes : List (Pass J R)) : Type 0 where
    pub none_left : NonePending r.board
    pub agrees : (w : ℕ) (p : Pass J R) → slice_get passes w ≡ Some p → part w r.history ≡ map bare p.mine

  -- when `close` returns Memory: only memory for the rows was missing, or the board has another capacity or number of workers than `close`
  -- was told
  abbrev pub RefusesMemory : Record J R → ℕ → ℕ → List (Pass J R) → Type 0
  RefusesMemory r capacity workers passes = r.board.capacity ≡ capacity → workers_of r.board ≡ workers → IsReady r passes

  -- why the board is not closed: the least number that has not ended; otherwise a worker whose events in the history differ from its pass;
  -- otherwise memory
  abbrev pub RefusesRecorded : Record J R → ℕ → ℕ → List (Pass J R) → CloseFault → Type 0
  RefusesRecorded r capacity workers passes (close.Unfinished n) = IsLeastPending r.board n
  RefusesRecorded r capacity workers passes (close.Mismatch w) = NonePending r.board
      × ((p : Pass J R) → slice_get passes w ≡ Some p → part w r.history ≢ map bare p.mine)
  RefusesRecorded r capacity workers passes close.Memory = RefusesMemory r capacity workers passes

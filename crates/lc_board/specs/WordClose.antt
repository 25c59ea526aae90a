-- What the words of a closed board say, and which rows are taken out of its slots.
use Rattle.std.specs.Prelude.{◌≡◌, ◌≢◌, ℕ, ◌<◌, ◌≤◌, ◌⊎◌, true, false, List, length, slice_get, slice_index, Option, Some, None, Result, Ok}
use Rattle.std.specs.Prelude.{Err}
use mathlib.Core.Option.{some}
use lib.ListN.{get_elem?}
use Rattle.lc_board.specs.{State.{Status, Returned, Faulted, status}, RowsInPlace.row_given, Growth.IsEnded}
use Rattle.lc_board.specs.{WordCode.{shown, word_of, is_absent, has_ended}, WordHistory.ShowsState, declared.words.coding.Word.Word}
use Rattle.lc_board.specs.declared.{event.Event.Event, answers.Ended.Ended, words.view.{Slot.{Slot, TheVariants.Row}, View.View}}
use Rattle.lc_board.specs.{Pass.Pass, ClosedBoard.{Promises, HasParts}}
use Rattle.lc_board.specs.declared.words.coding.Word.TheVariants as word
use Rattle.lc_board.specs.declared.answers.Ended.TheVariants as ended

-- a board of words compares nothing when it is closed; each row is at the index of its number, and a post returns Full only if all numbers
-- are used
abbrev pub words_promises : Promises
words_promises = record { keeps = true; compares = false; fills = true }

-- the word of a number
abbrev pub word_at : List ℕ → ℕ → Word
word_at codes k = word_of (slice_index codes k)

-- each number below n has ended
abbrev pub EndedBelow : ℕ → List ℕ → Type 0
EndedBelow n codes = (k : ℕ) → k < n → has_ended (word_at codes k) ≡ true

-- what counting the ended numbers returns: n, if all below n have ended, and n is absent or the capacity; or the least number that is used
-- and has not ended
abbrev pub TellsEnded : ℕ → List ℕ → Result ℕ ℕ → Type 0
TellsEnded capacity codes (Ok n) = EndedBelow n codes × (n ≤ capacity) × ((n ≡ capacity) ⊎ (is_absent (word_at codes n) ≡ true))
TellsEnded capacity codes (Err n) = EndedBelow n codes × (n < capacity)
    × (is_absent (word_at codes n) ≡ false) × (has_ended (word_at codes n) ≡ false)

-- the row of a number that has ended, as its status says
abbrev pub ended_as : {R : Type 0} → Status → R → Option (Ended R)
ended_as Returned r = Some (ended.Returned r)
ended_as Faulted r = Some (ended.Faulted r)
ended_as _ r = None

module _ {J R : Type 0} where
  -- each number below n has its row in its slot
  abbrev pub HasRows : ℕ → List (Slot J R) → Type 0
  HasRows n xs = (k : ℕ) → k < n → (r : R) × (get_elem? xs k ≡ some (Row r))

  -- each row below n is the row in the slot of its number, returned or faulted as the number's word says
  abbrev pub TakesRows : ℕ → List ℕ → List (Slot J R) → List (Ended R) → Type 0
  TakesRows n codes xs rows = (k : ℕ) (r : R) → k < n → get_elem? xs k ≡ some (Row r)
      → slice_get rows k ≡ ended_as (shown (word_at codes k)) r

  -- the pass v has the events m of the worker w: w is the pass's own worker, or w's pass was merged into the pass v
  abbrev pub Tells : View J R → ℕ → List (Event J R) → Type 0
  Tells v w m = ((w ≡ v.worker) × (v.mine ≡ m)) ⊎ ((n : ℕ) × (get_elem? v.joined n ≡ some (w, m)))

  -- the pass v has the events of each worker from n on, and its front is the end of the board if the pass of such a worker was full
  abbrev pub HasTaken : ℕ → List (Pass J R) → ℕ → View J R → Type 0
  HasTaken slots passes n v = (w : ℕ) (p : Pass J R) → n ≤ w → slice_get passes w ≡ Some p
      → Tells v w p.mine × (p.full ≡ true → slots ≤ v.front)

  -- the row that ended a number is in the number's slot
  abbrev pub IsPlaced : List (Event J R) → List (Slot J R) → ℕ → Type 0
  IsPlaced h xs k = (r : R) × (get_elem? xs k ≡ some (Row r)) × (row_given h k ≡ ended_as (status h k) r)

  -- the words and slots of a closed board: one legal history, whose parts are the passes' events, with each row in its slot
  pub record ShowsClosedHistory (root : Option J) (workers : ℕ) (passes : List (Pass J R)) (codes : List ℕ)
      (xs : List (Slot J R)) : Type 0 where
    pub history : List (Event J R)
    pub faces : ℕ → Word
    pub state : ShowsState root workers (length xs) codes history faces
    pub parts : HasParts history passes
    pub undrawn : (k u : ℕ) → faces k ≢ word.Drawn u
    pub placed : (k : ℕ) → k < length xs → IsEnded (status history k) → IsPlaced history xs k
    pub used : (w : ℕ) (p : Pass J R) → slice_get passes w ≡ Some p → p.full ≡ true
        → (k : ℕ) → k < length xs → faces k ≢ word.Absent

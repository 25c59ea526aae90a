-- The words of a board, and what each pass knows of the board.
use Rattle.std.specs.Prelude.{◌≡◌, ◌≢◌, ℕ, ◌+◌, ◌<◌, ◌≤◌, true, List, [], length, Option, Some, None, slice_index}
use mathlib.Core.Option.{some, none}
use mathlib.Core.Option as maybe
use lib.ListN.{get_elem?}
use Rattle.atomic_table.specs.Table.{State, Me}
use Rattle.lc_board.specs.{State.{Claimed, status}, Part.part, LegalHistory.IsLegal, RowsInPlace.row_given}
use Rattle.lc_board.specs.{Growth.{GoesOn, IsEnded, job_at, IsMatched}, declared.{event.Event.Event, words.coding.Word.Word}}
use Rattle.lc_board.specs.{declared.words.view.{Slot.{Slot, TheVariants.{Empty, Job, Row}}, View.View}, WordCode.{shown, code}}
use Rattle.lc_board.specs.declared.answers.Ended.TheVariants as ended
use Rattle.lc_board.specs.declared.words.coding.Word.TheVariants as word

-- `Homes`: the slots that no pass holds. `Seated`: what a pass knows, and the slots that it holds
abbrev pub Homes : Type 0 → Type 0 → Type 0
Homes J R = List (maybe.Option (Slot J R))

abbrev pub Seated : Type 0 → Type 0 → Type 0
Seated J R = Me (Slot J R) (View J R)

module _ {J R : Type 0} where
  -- what the slot of a number contains, by the number's word
  abbrev pub SlotHolds : Option J → List (Event J R) → Homes J R → ℕ → Word → Type 0
  SlotHolds root h hs i (word.Drawn w) = Unit {0}
  SlotHolds root h hs i word.Absent = get_elem? hs i ≡ some (some Empty)
  SlotHolds root h hs i word.Open = (j : J) × (get_elem? hs i ≡ some (some (Job j))) × (job_at root h i ≡ Some j)
  SlotHolds root h hs i (word.Claimed w) = Unit {0}
  SlotHolds root h hs i word.Returned = (r : R) × (get_elem? hs i ≡ some (some (Row r))) × (row_given h i ≡ Some (ended.Returned r))
  SlotHolds root h hs i word.Faulted = (r : R) × (get_elem? hs i ≡ some (some (Row r))) × (row_given h i ≡ Some (ended.Faulted r))

  -- what is known of a worker u whose pass was merged into the pass at the seat j: its events are m, and it has drawn no number
  pub record HasJoined (h : List (Event J R)) (faces : ℕ → Word) (owner : ℕ → Option ℕ)
      (j worker u : ℕ) (m : List (Event J R)) : Type 0 where
    pub owned : owner u ≡ Some j
    pub other : u ≢ worker
    pub events : part u h ≡ m
    pub idle : (k : ℕ) → faces k ≢ word.Drawn u

  -- what the pass at the seat j knows
  pub record Knows (root : Option J) (workers : ℕ) (h : List (Event J R)) (faces : ℕ → Word) (owner : ℕ → Option ℕ)
      (j : ℕ) (v : View J R) : Type 0 where
    pub root_is : v.root ≡ root
    pub workers_are : v.workers ≡ workers
    pub member : v.worker < workers
    pub mine : part v.worker h ≡ v.mine
    pub seen : GoesOn h v.seen
    pub own : part v.worker v.seen ≡ v.mine
    pub owns : owner v.worker ≡ Some j
    pub drew : (k : ℕ) → faces k ≡ word.Drawn v.worker → v.drawn ≡ k + 1
    pub draws : (k : ℕ) → v.drawn ≡ k + 1 → faces k ≡ word.Drawn v.worker
    pub low : (k : ℕ) → k < v.low → IsEnded (status v.seen k)
    pub front : (k : ℕ) → k < v.front → faces k ≢ word.Absent
    pub deals : 0 < v.made → (j ≡ 0) × ((u : ℕ) → v.made ≤ u → owner u ≡ None)
    pub joins : (n u : ℕ) (m : List (Event J R)) → get_elem? v.joined n ≡ some (u, m) → HasJoined h faces owner j v.worker u m

  -- the words show the state after a legal history, in which each claim got the job that was posted at its number; absent numbers come last
  pub record ShowsState (root : Option J) (workers size : ℕ) (codes : List ℕ) (history : List (Event J R)) (faces : ℕ → Word) : Type 0 where
    pub legal : IsLegal size workers history
    pub matched : IsMatched root history
    pub shows : (k : ℕ) → k < size → slice_index codes k ≡ code (faces k)
    pub agrees : (k : ℕ) → status history k ≡ shown (faces k)
    pub beyond : (k : ℕ) → size ≤ k → faces k ≡ word.Absent
    pub together : (k l : ℕ) → k ≤ l → faces k ≡ word.Absent → faces l ≡ word.Absent

  -- the words show the state after one legal history; each pass has seen a beginning of it, and has all events of its worker
  pub record ShowsHistory (root : Option J) (workers : ℕ) (s : State (Slot J R) (View J R)) : Type 0 where
    pub history : List (Event J R)
    pub faces : ℕ → Word
    pub owner : ℕ → Option ℕ
    pub state : ShowsState root workers (length s.homes) s.words history faces
    pub wide : length s.words ≡ length s.homes
    pub lies : (k : ℕ) → k < length s.homes → SlotHolds root history s.homes k (faces k)
    pub busy : (k w : ℕ) → faces k ≡ word.Drawn w → (p : ℕ) × (status history p ≡ Claimed w)
    pub idle : (u : ℕ) → owner u ≡ None
        → (part u history ≡ []) × ((k : ℕ) → (faces k ≢ word.Drawn u) × (faces k ≢ word.Claimed u))
    pub each_seat : (j : ℕ) (v : View J R) → get_elem? s.views j ≡ some v → v.live ≡ true
        → Knows root workers history faces owner j v

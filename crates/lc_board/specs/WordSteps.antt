-- What a pass learns from each step on a word.
use Rattle.std.specs.Prelude.{◌≡◌, ◌≢◌, ℕ, ◌+◌, ◌<◌, ◌≤◌, ◌==◌, Bool, true, false, cond, ltb, ◌&&◌, ◌||◌, MatchBool, IsSome, List, [], ◌∷◌}
use Rattle.std.specs.Prelude.{◌++◌, Option, Some, None}
use Rattle.atomic_table.specs.Table.{Step, rest}
use Rattle.lc_board.specs.{State.{Absent, Open, Claimed, Returned, Faulted, status}, Part.part, LegalHistory.IsLegal, Holding.holding}
use Rattle.lc_board.specs.{Growth.{GoesOn, IsEnded, IsMatched}, WordCode.{code, word_of, end_word, is_absent, is_open, has_ended, is_taken}}
use Rattle.lc_board.specs.{Ending.{end_event, row_in}, WordHistory.Seated, declared.{answers.Ended.Ended, event.Event.Event}}
use Rattle.lc_board.specs.declared.{event.Event.TheVariants.{Post, Claim, Over}, words.{coding.Word.Word, view.Slot.Slot}}
use Rattle.lc_board.specs.declared.words.view.{Slot.TheVariants.{Empty, Job, Row}, View.View}
use Rattle.lc_board.specs.declared.words.coding.Word.TheVariants as word

-- the low mark after a look at the number i, whose word is x
abbrev pub low_after : ℕ → ℕ → ℕ → Word → ℕ
low_after cap i low x = cond ((low == i) && (has_ended x && ltb (i + 1) cap)) (i + 1) low

-- the mark of the numbers that are taken, after a look at the number i, whose word is x
abbrev pub taken_after : ℕ → ℕ → Word → ℕ
taken_after i taken x = cond ((taken == i) && is_taken x) (i + 1) taken

-- no number after i is used: i is absent, or has ended and is the last
abbrev pub is_last_word : ℕ → ℕ → Word → Bool
is_last_word cap i x = is_absent x || (has_ended x && (i + 1 == cap))

-- no number is left to look at: all below i have ended, and i is absent, or has ended and is the last number of the board
abbrev pub last_look : ℕ → ℕ → ℕ → Word → Bool
last_look cap i low x = (low == i) && is_last_word cap i x

-- the larger of two numbers
abbrev pub larger : ℕ → ℕ → ℕ
larger a b = cond (ltb a b) b a

module _ {J R : Type 0} where
  -- the parts of what a pass knows that no step changes
  abbrev pub Same : View J R → View J R → Type 0
  Same v w = (w.live ≡ v.live) × (w.root ≡ v.root) × (w.workers ≡ v.workers) × (w.worker ≡ v.worker)
      × (w.made ≡ v.made) × (w.joined ≡ v.joined)

  -- one step is taken, on the word of the number i
  abbrev pub TakesStep : ℕ → View J R → View J R → Type 0
  TakesStep i v w = w.steps ≡ i ∷ v.steps

  -- the parts of what a pass knows that another pass gets when the two passes are merged
  abbrev pub IsSameTold : View J R → View J R → Type 0
  IsSameTold v w = (w.live ≡ v.live) × (w.worker ≡ v.worker) × (w.mine ≡ v.mine) × (w.front ≡ v.front)
      × (w.drawn ≡ v.drawn) × (w.joined ≡ v.joined)

  -- the history that was seen is legal, each claim in it got the job that was posted at its number, and the worker's part of it is the
  -- worker's own events
  abbrev pub IsFair : ℕ → View J R → Type 0
  IsFair cap w = IsLegal cap w.workers w.seen × IsMatched w.root w.seen × (part w.worker w.seen ≡ w.mine)

  -- the history goes on from what was seen, and the worker has added nothing
  abbrev pub Extends : View J R → View J R → Type 0
  Extends v w = GoesOn w.seen v.seen × (w.mine ≡ v.mine)

  -- like `Extends`, and what was seen satisfies `IsFair`
  abbrev pub ExtendsFairly : ℕ → View J R → View J R → Type 0
  ExtendsFairly cap v w = GoesOn w.seen v.seen × (w.mine ≡ v.mine) × IsFair cap w

  -- the history goes on from what was seen and ends with this event, which is added to the worker's events
  abbrev pub AddsEvent : ℕ → View J R → Event J R → View J R → Type 0
  AddsEvent cap v e w = ((h : List (Event J R)) × GoesOn h v.seen × (w.seen ≡ e ∷ h)) × (w.mine ≡ e ∷ v.mine) × IsFair cap w

  -- some history in between has a state in which another worker holds a claim
  abbrev pub OthersHeld : View J R → View J R → Type 0
  OthersHeld v w = (h : List (Event J R)) × (p u : ℕ) × GoesOn h v.seen × GoesOn w.seen h
      × (u ≢ w.worker) × (status h p ≡ Claimed u)

  -- no number that had been seen posted is open, and another worker had a claim meanwhile
  abbrev pub Waits : ℕ → View J R → View J R → Type 0
  Waits cap v w = ExtendsFairly cap v w × ((k : ℕ) → status v.seen k ≢ Absent → status w.seen k ≢ Open) × OthersHeld v w

  -- each number below this one has ended
  abbrev pub EndedTo : ℕ → View J R → Type 0
  EndedTo n w = (k : ℕ) → k < n → IsEnded (status w.seen k)

  -- each number from the capacity on is absent
  abbrev pub EndsAt : ℕ → View J R → Type 0
  EndsAt cap w = (k : ℕ) → cap ≤ k → status w.seen k ≡ Absent

  -- some worker has a claim; if the pass's own worker has none, another worker has one
  abbrev pub SomeHolds : View J R → Type 0
  SomeHolds w = (p u : ℕ) × (status w.seen p ≡ Claimed u) × (holding w.mine ≡ None → u ≢ w.worker)

  -- the word x shows the status of the number i in the history then seen; if i is absent, all numbers after it are absent too
  abbrev pub Finds : ℕ → Word → View J R → Type 0
  Finds i word.Absent w = (k : ℕ) → i ≤ k → status w.seen k ≡ Absent
  Finds i word.Open w = status w.seen i ≡ Open
  Finds i word.Returned w = status w.seen i ≡ Returned
  Finds i word.Faulted w = status w.seen i ≡ Faulted
  Finds i (word.Drawn u) w = (status w.seen i ≡ Absent) × SomeHolds w
  Finds i (word.Claimed u) w = (status w.seen i ≡ Claimed u) × SomeHolds w

  -- a look at the number i, whose word is x; if no number is left to look at, the look adds the event Over
  abbrev pub HasLooked : ℕ → ℕ → Word → View J R → View J R → Type 0
  HasLooked cap i x v w = Same v w × (w.drawn ≡ v.drawn) × (w.front ≡ v.front) × (w.low ≡ low_after cap i v.low x)
      × EndedTo w.low w × EndsAt cap w
      × Finds i x w × MatchBool (last_look cap i v.low x) (AddsEvent cap v (Over v.worker) w) (ExtendsFairly cap v w)

  -- the step that looks at a word
  abbrev pub looked : Step (Slot J R) → Seated J R → ℕ → Seated J R → Type 0
  looked st m r m' = (m'.1 ≡ m.1) × HasLooked st.slots st.word (word_of r) m.0 m'.0 × TakesStep st.word m.0 m'.0

  -- the number is claimed, and its job is taken
  abbrev pub TakesJob : Step (Slot J R) → Seated J R → Seated J R → Type 0
  TakesJob st m m' = (j : J) × Same m.0 m'.0 × (m'.0.drawn ≡ m.0.drawn) × (m'.0.front ≡ m.0.front) × (m'.0.low ≡ m.0.low)
      × (m'.1 ≡ (st.word, Job j) ∷ m.1) × AddsEvent st.slots m.0 (Claim m.0.worker st.word j) m'.0 × TakesStep st.word m.0 m'.0

  -- the step that tries to claim a number: if the number is open, its job is taken; otherwise the step is a look
  abbrev pub claimed : Step (Slot J R) → Seated J R → ℕ → Seated J R → Type 0
  claimed st m r m' = MatchBool (is_open (word_of r)) (TakesJob st m m') (looked st m r m')

  -- the number i, which is above the claimed number, is drawn, and its empty slot is taken
  abbrev pub TakesEmpty : ℕ → Seated J R → Seated J R → Type 0
  TakesEmpty i m m' = (m'.1 ≡ (i, Empty) ∷ m.1) × (m'.0.drawn ≡ i + 1) × ((p : ℕ) → holding m.0.mine ≡ Some p → p < i)

  -- a pass that has a claim and has drawn nothing may draw the number at its front
  abbrev pub MayDraw : ℕ → ℕ → View J R → Type 0
  MayDraw i worker v = (v.live ≡ true) × (v.worker ≡ worker) × (v.drawn ≡ 0) × (v.front ≡ i) × IsSome (holding v.mine)

  -- a try to draw the number i, which is drawn if it was free; in both cases the front moves past i
  abbrev pub TriesDraw : ℕ → ℕ → Bool → Seated J R → Seated J R → Type 0
  TriesDraw cap i free m m' = Same m.0 m'.0 × (m'.0.low ≡ m.0.low) × (m'.0.front ≡ i + 1) × ExtendsFairly cap m.0 m'.0
      × MatchBool free (TakesEmpty i m m') ((m'.1 ≡ m.1) × (m'.0.drawn ≡ m.0.drawn)) × TakesStep i m.0 m'.0

  -- the step that tries to draw a number, which is drawn if it is absent
  abbrev pub drew : Step (Slot J R) → Seated J R → ℕ → Seated J R → Type 0
  drew st m r m' = TriesDraw st.slots st.word (is_absent (word_of r)) m m'

  -- the step that looks at the number at the front; if that number is used, the front moves past it
  abbrev pub front_moved : Step (Slot J R) → Seated J R → ℕ → Seated J R → Type 0
  front_moved st m r m' = (m'.1 ≡ m.1) × Same m.0 m'.0 × (m'.0.drawn ≡ m.0.drawn) × (m'.0.low ≡ m.0.low)
      × (m'.0.front ≡ cond (is_absent (word_of r)) m.0.front (st.word + 1)) × ExtendsFairly st.slots m.0 m'.0 × TakesStep st.word m.0 m'.0

  -- the pass returns the slot that it took last to the board
  abbrev pub Leaves : Seated J R → Seated J R → Type 0
  Leaves m m' = Same m.0 m'.0 × (m'.0.drawn ≡ 0) × (m'.0.low ≡ m.0.low) × (m'.0.front ≡ m.0.front) × (m'.1 ≡ rest m.1)

  -- a pass that has drawn the number i, above its claimed number, may open i with the job in the slot
  abbrev pub MayOpen : ℕ → Seated J R → Type 0
  MayOpen i m = (m.0.live ≡ true) × (m.0.drawn ≡ i + 1) × ((p : ℕ) × (holding m.0.mine ≡ Some p) × (p < i))
      × ((j : J) × (m.1 ≡ (i, Job j) ∷ rest m.1))

  -- the number i that was drawn is opened with the job in its slot, under the pass's claim
  abbrev pub OpensDrawn : ℕ → ℕ → Seated J R → Seated J R → Type 0
  OpensDrawn cap i m m' = Leaves m m'
      × ((p : ℕ) × (j : J) × (holding m.0.mine ≡ Some p) × (m.1 ≡ (i, Job j) ∷ rest m.1)
      × AddsEvent cap m.0 (Post m.0.worker p i j) m'.0) × TakesStep i m.0 m'.0

  -- the step that opens a number that was drawn
  abbrev pub opened : Step (Slot J R) → Seated J R → ℕ → Seated J R → Type 0
  opened st m r m' = OpensDrawn st.slots st.word m m'

  -- the step that ends the claim by the row in its slot, returned or faulted as the code says
  abbrev pub ended : Step (Slot J R) → Seated J R → ℕ → Seated J R → Type 0
  ended st m r m' = Leaves m m'
      × ((e : Ended R) × (st.first ≡ code (end_word e)) × (m.1 ≡ (st.word, Row (row_in e)) ∷ rest m.1)
      × AddsEvent st.slots m.0 (end_event m.0.worker st.word e) m'.0) × TakesStep st.word m.0 m'.0

  -- the step of a pass that has a claim when the board is about to be closed: the claim stays, and its slot is returned to the board
  abbrev pub slot_released : Step (Slot J R) → Seated J R → ℕ → Seated J R → Type 0
  slot_released st m r m' = Leaves m m' × Extends m.0 m'.0 × TakesStep st.word m.0 m'.0

  -- what the first pass knows at the start; this pass makes the other passes
  abbrev pub view_before_split : Option J → ℕ → View J R
  view_before_split root workers = record {
    live = true;
    root = root;
    workers = workers;
    worker = 0;
    seen = [];
    mine = [];
    drawn = 0;
    low = 0;
    front = 1;
    made = 1;
    joined = [];
    steps = [];
  }

  -- what a pass knows after it has made one more pass
  abbrev pub kept_by_split : View J R → View J R
  kept_by_split v = record v { made = v.made + 1 }

  -- what the pass that was made knows
  abbrev pub given_by_split : View J R → View J R
  given_by_split v = record {
    live = true;
    root = v.root;
    workers = v.workers;
    worker = v.made;
    seen = [];
    mine = [];
    drawn = 0;
    low = 0;
    front = v.front;
    made = 0;
    joined = [];
    steps = [];
  }

  -- what a pass knows after another pass was merged into it
  abbrev pub merged : View J R → View J R → View J R
  merged v w = record v { joined = v.joined ++ (w.worker, w.mine) ∷ w.joined; front = larger v.front w.front }

-- what a pass knows after it was merged into another pass: nothing
abbrev pub spent : {J R : Type 0} → View J R
spent = record {
  live = false;
  root = None;
  workers = 0;
  worker = 0;
  seen = [];
  mine = [];
  drawn = 0;
  low = 0;
  front = 0;
  made = 0;
  joined = [];
  steps = [];
}

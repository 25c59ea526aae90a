-- What the reads of a call gave: pieces, and then the end, a failure or neither.
use Rattle.std.specs.{Prelude.{◌≡◌, ◌≢◌, ℕ, ◌+◌, ◌<◌, List, [], ◌∷◌, length, take, Result, Ok, Err}, List.concat}

-- what one read gave: the bytes that it put at the front of the buffer, or a failure
pub data Answer : Type 0 where
  gave : List ℕ → Answer
  failed : Answer

-- the answer, by what `read` returned and by the buffer afterwards
abbrev pub answer_of : {E : Type 0} → Result ℕ E → List ℕ → Answer
answer_of (Ok count) buffer = gave (take count buffer)
answer_of (Err e) buffer = failed

-- how the reads of a call stop: at the end, at a failure, or before either
pub data Stop : Type 0 where
  at_end : Stop
  at_failure : Stop
  at_neither : Stop

-- how long the buffers of the reads were: of any length, or all of one length
abbrev pub AnyRoom : ℕ → Type 0
AnyRoom room = Unit {0}

abbrev pub RoomOf : ℕ → ℕ → Type 0
RoomOf size room = room ≡ size

-- may_give says which answers a read may give, by the reader before, the buffer's length, the answer, the reader after
module _ {S : Type 0} (may_give : S → ℕ → Answer → S → Type 0) (IsRoom : ℕ → Type 0) where
  -- one read, into a buffer that is not empty
  abbrev pub MayRead : S → Answer → S → Type 0
  MayRead old answer new = (room : ℕ) × (0 < room) × IsRoom room × may_give old room answer new

  -- the last read, if there was one, was the end or a failure
  abbrev pub Stops : S → Stop → S → Type 0
  Stops old at_end new = MayRead old (gave []) new
  Stops old at_failure new = MayRead old failed new
  Stops old at_neither new = old ≡ new

  -- the reads gave these pieces in turn, none of them empty, and then stopped in this way
  abbrev pub Reads : S → List (List ℕ) → Stop → S → Type 0
  Reads old [] stop new = Stops old stop new
  Reads old (piece ∷ pieces) stop new =
      (middle : S) × (piece ≢ []) × MayRead old (gave piece) middle × Reads middle pieces stop new

  -- the reads gave these bytes, in whatever pieces, and then stopped in this way
  pub record GivesBytes (old : S) (bytes : List ℕ) (stop : Stop) (new : S) : Type 0 where
    pub pieces : List (List ℕ)
    pub reads : Reads old pieces stop new
    pub joined : concat pieces ≡ bytes

-- how many reads gave these pieces and stopped in this way: the end and a failure each took one more read
abbrev pub read_count : List (List ℕ) → Stop → ℕ
read_count pieces at_end = length pieces + 1
read_count pieces at_failure = length pieces + 1
read_count pieces at_neither = length pieces

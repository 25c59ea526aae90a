-- The writes of one call.
use Rattle.std.specs.{Prelude.{◌≡◌, ℕ, ◌<◌, ◌≤◌, ◌⊎◌, List, [], ◌∷◌, ◌++◌, length, drop, Result, Ok, Err, Vec}, Global.Global}
use Rattle.lc_io.specs.declared.{source.Failed.Failed, printing.PrintFault.{PrintFault, TheVariants.{Write, Memory}}}

-- a vector takes all bytes, or no byte if an allocation fails
abbrev pub AppendsAll : Vec ℕ Global → List ℕ → Result ℕ Failed → Vec ℕ Global → Type 0
AppendsAll old bytes (Ok n) new = (n ≡ length bytes) × (new.items ≡ old.items ++ bytes)
AppendsAll old bytes (Err _) new = new.items ≡ old.items

-- writes in turn took as many bytes as the counts say, each at least one, of a text of which the rest is left
abbrev pub TakesCounts : {S : Type 0} → (S → List ℕ → Result ℕ Failed → S → Type 0) → S → List ℕ → List ℕ → S → List ℕ → Type 0
TakesCounts may_take old text [] new rest = (new ≡ old) × (rest ≡ text)
TakesCounts {S} may_take old text (n ∷ ns) new rest =
    (0 < n) × (n ≤ length text) × ((mid : S) × may_take old text (Ok n) mid × TakesCounts may_take mid (drop n text) ns new rest)

-- the text was written whole
abbrev pub Writes : {S : Type 0} → (S → List ℕ → Result ℕ Failed → S → Type 0) → S → List ℕ → S → Type 0
Writes may_take old text new = (counts : List ℕ) × TakesCounts may_take old text counts new []

-- a write failed, or took nothing
abbrev pub TakesNothing : {S : Type 0} → (S → List ℕ → Result ℕ Failed → S → Type 0) → S → List ℕ → S → Type 0
TakesNothing may_take old rest new = ((f : Failed) × may_take old rest (Err f) new) ⊎ may_take old rest (Ok 0) new

-- a prefix of the text was written, and then a write of the rest, which was not empty, failed or took nothing
abbrev pub StopsWriting : {S : Type 0} → (S → List ℕ → Result ℕ Failed → S → Type 0) → S → List ℕ → S → Type 0
StopsWriting {S} may_take old text new =
    (counts : List ℕ) × (mid : S) × (rest : List ℕ) × (0 < length rest)
    × TakesCounts may_take old text counts mid rest × TakesNothing may_take mid rest new

-- what a call answers that writes a text: it was written whole; a write stopped it; nothing was written
abbrev pub AnswersPrint : {S : Type 0} → (S → List ℕ → Result ℕ Failed → S → Type 0)
    → S → List ℕ → Result (Unit {0}) PrintFault → S → Type 0
AnswersPrint may_take old text (Ok _) new = Writes may_take old text new
AnswersPrint may_take old text (Err Write) new = StopsWriting may_take old text new
AnswersPrint may_take old text (Err Memory) new = new ≡ old

-- What a call answers that reads a reader whole, up to a limit.
use Rattle.std.specs.Prelude.{◌≡◌, ◌≢◌, ℕ, ◌+◌, ◌≤◌, List, [], ◌++◌, length, Result, Ok, Err}
use Rattle.lc_io.specs.{declared.whole.WholeFault.{WholeFault, TheVariants.{Read, TooLong, Memory}}, Reads.{Answer, AnyRoom, at_end}}
use Rattle.lc_io.specs.Reads.{at_failure, at_neither, GivesBytes}

-- what the call answers, by its reads, and the bytes that it leaves
abbrev pub AnswersWhole : {S : Type 0} → (S → ℕ → Answer → S → Type 0) → ℕ → S → Result (Unit {0}) WholeFault → List ℕ → S → Type 0
-- the reads gave these bytes, no more than the limit, and the last met the end
AnswersWhole may_give limit old (Ok _) bytes new = (length bytes ≤ limit) × GivesBytes may_give AnyRoom old bytes at_end new
-- the reads gave these bytes, no more than the limit, and the last failed
AnswersWhole may_give limit old (Err Read) bytes new = (length bytes ≤ limit) × GivesBytes may_give AnyRoom old bytes at_failure new
-- the reads gave these bytes, the first past the limit among them, and no more reads were made
AnswersWhole may_give limit old (Err TooLong) bytes new = (length bytes ≡ limit + 1) × GivesBytes may_give AnyRoom old bytes at_neither new
-- the reads gave these bytes and a piece for which there was no memory, and no more reads were made
AnswersWhole may_give limit old (Err Memory) bytes new =
    (length bytes ≤ limit) × ((piece : List ℕ) × (piece ≢ []) × GivesBytes may_give AnyRoom old (bytes ++ piece) at_neither new)

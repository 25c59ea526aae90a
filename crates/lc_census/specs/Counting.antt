-- What a count of a reader's bytes answers, by the reads that it made.
use Rattle.std.specs.{Prelude.{◌≡◌, ℕ, ◌≤◌, List, Result, Ok, Err}, List.concat}
use Rattle.lc_census.specs.declared.{line_count.Count.Count, counting.CensusFault.{CensusFault, TheVariants.{Read, Endless, Memory}}}
use Rattle.lc_census.specs.Census.{IsCensus}
use Rattle.lc_io.specs.Reads.{Answer, RoomOf, at_end, at_failure, at_neither, Reads, read_count}

-- what a count answers, by its reads: at most so many turns, each a read into a buffer of this length
abbrev pub AnswersCount : {S : Type 0} → (S → ℕ → Answer → S → Type 0) → ℕ → ℕ → S → Result Count CensusFault → S → Type 0
-- the last read met the end, and the count is the census of what the reads gave
AnswersCount may_give room turns old (Ok count) new =
    (pieces : List (List ℕ)) × Reads may_give (RoomOf room) old pieces at_end new
    × (read_count pieces at_end ≤ turns) × IsCensus (concat pieces) count
-- the last read failed
AnswersCount may_give room turns old (Err Read) new =
    (pieces : List (List ℕ)) × Reads may_give (RoomOf room) old pieces at_failure new
    × (read_count pieces at_failure ≤ turns)
-- all turns were made, and none of the reads met the end or failed
AnswersCount may_give room turns old (Err Endless) new =
    (pieces : List (List ℕ)) × Reads may_give (RoomOf room) old pieces at_neither new
    × (read_count pieces at_neither ≡ turns)
-- no read was made
AnswersCount may_give room turns old (Err Memory) new = old ≡ new

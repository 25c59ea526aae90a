-- What a word of the board says of its number, and the code under which it is stored.
use Rattle.std.specs.Prelude.{ℕ, ◌+◌, ◌*◌, ◌-◌, ◌/◌, ◌%◌, ◌==◌, cond, Bool, true, false}
use Rattle.lc_board.specs.{State.Status, declared.{answers.Ended.Ended, words.coding.Word.Word}}
use Rattle.lc_board.specs.declared.words.coding.Word.TheVariants.{Absent, Open, Returned, Faulted, Drawn, Claimed}
use Rattle.lc_board.specs.State as state
use Rattle.lc_board.specs.declared.answers.Ended.TheVariants as ended

-- the status that a word shows; a number that is drawn is still absent
abbrev pub shown : Word → Status
shown Absent = state.Absent
shown Open = state.Open
shown Returned = state.Returned
shown Faulted = state.Faulted
shown (Drawn w) = state.Absent
shown (Claimed w) = state.Claimed w

-- the code of a word: from 4 on, an even code is of a number that is drawn, an odd code of a number that is claimed
abbrev pub code : Word → ℕ
code Absent = 0
code Open = 1
code Returned = 2
code Faulted = 3
code (Drawn w) = 4 + 2 * w
code (Claimed w) = 5 + 2 * w

-- the word of a code from 4 on
abbrev pub busy_word : ℕ → Word
busy_word n = cond (n % 2 == 0) (Drawn ((n - 4) / 2)) (Claimed ((n - 4) / 2))

-- the word of a code
abbrev pub word_of : ℕ → Word
word_of n = cond (n == 0) Absent (cond (n == 1) Open (cond (n == 2) Returned (cond (n == 3) Faulted (busy_word n))))

abbrev pub is_absent : Word → Bool
is_absent Absent = true
is_absent _ = false

abbrev pub is_open : Word → Bool
is_open Open = true
is_open _ = false

abbrev pub has_ended : Word → Bool
has_ended Returned = true
has_ended Faulted = true
has_ended _ = false

-- the word of a number that has ended with this row
abbrev pub end_word : {R : Type 0} → Ended R → Word
end_word (ended.Returned r) = Returned
end_word (ended.Faulted r) = Faulted

-- a worker is about to open the number, or has claimed it
abbrev pub is_busy : Word → Bool
is_busy (Drawn w) = true
is_busy (Claimed w) = true
is_busy _ = false

-- the number has ended or is claimed, and so will never be open again
abbrev pub is_taken : Word → Bool
is_taken Returned = true
is_taken Faulted = true
is_taken (Claimed w) = true
is_taken _ = false

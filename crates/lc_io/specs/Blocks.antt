-- A text that is written in blocks as it is made.
use Rattle.std.specs.Prelude.{◌≡◌, ◌⊎◌, ℕ, ◌<◌, ◌≤◌, List, [], ◌++◌, length, Result, Ok, Err}
use Rattle.lc_io.specs.declared.{source.Failed.Failed, printing.PrintFault.{PrintFault, TheVariants.{Write, Memory}}}
use Rattle.lc_io.specs.{Pieces.WritesInPieces, Writes.{Writes, StopsWriting}}

-- the number of bytes from which on a block is full
abbrev pub block_size : ℕ
block_size = 65536

module _ {S : Type 0} (may_take : S → List ℕ → Result ℕ Failed → S → Type 0) where
  -- a full block was written whole and is empty; or it isn't full, it is as it was, and nothing was written
  abbrev pub EmptiesFull : S → List ℕ → S → List ℕ → Type 0
  EmptiesFull old block new left =
      ((block_size ≤ length block) × Writes may_take old block new × (left ≡ []))
      ⊎ ((length block < block_size) × (new ≡ old) × (left ≡ block))

  -- what `print_if_full` answers: a full block was emptied, or nothing was done; or a write of a full block failed, and the block is as it
  -- was
  abbrev pub AnswersBlock : S → List ℕ → Result (Unit {0}) PrintFault → S → List ℕ → Type 0
  AnswersBlock old block (Ok _) new left = EmptiesFull old block new left
  AnswersBlock old block (Err Write) new left = (block_size ≤ length block) × StopsWriting may_take old block new × (left ≡ block)
  AnswersBlock old block (Err Memory) new left = ⊥

-- all of the text was written, in pieces, but for what is still in the block
pub record WritesAllBut {S : Type 0} (may_take : S → List ℕ → Result ℕ Failed → S → Type 0) (old : S) (text block : List ℕ) (new : S)
    : Type 0 where
  pub front : List ℕ
  pub whole : front ++ block ≡ text
  pub written : WritesInPieces may_take old front new

-- A text that is written in pieces, each of them by writes of its own.
use Rattle.std.specs.{Prelude.{◌≡◌, ℕ, List, [], ◌∷◌, ◌++◌, Result, Ok, Err}, List.concat}
use Rattle.lc_io.specs.{declared.{source.Failed.Failed, printing.PrintFault.{PrintFault, TheVariants.{Write, Memory}}}, Writes.Writes}
use Rattle.lc_io.specs.Writes.{StopsWriting}

module _ {S : Type 0} (may_take : S → List ℕ → Result ℕ Failed → S → Type 0) where
  -- these pieces were written in turn, each of them whole
  abbrev pub WritesPieces : S → List (List ℕ) → S → Type 0
  WritesPieces old [] new = new ≡ old
  WritesPieces old (piece ∷ pieces) new = (mid : S) × Writes may_take old piece mid × WritesPieces mid pieces new

  -- the text was written whole, in some pieces
  abbrev pub WritesInPieces : S → List ℕ → S → Type 0
  WritesInPieces old text new = (pieces : List (List ℕ)) × (concat pieces ≡ text) × WritesPieces old pieces new

  -- a prefix of the text was written, in some pieces
  abbrev pub WritesPrefix : S → List ℕ → S → Type 0
  WritesPrefix old text new = (front rest : List ℕ) × (text ≡ front ++ rest) × WritesInPieces old front new

  -- a prefix of the text was written, in some pieces, and then of the next piece a write failed or took nothing
  abbrev pub StopsInPieces : S → List ℕ → S → Type 0
  StopsInPieces old text new =
      (front piece rest : List ℕ) × (text ≡ front ++ piece ++ rest)
      × (mid : S) × WritesInPieces old front mid × StopsWriting may_take mid piece new

  -- what a call answers that writes a text in pieces as it makes it: all was written; a write stopped it; there was no memory for the
  -- rest
  abbrev pub AnswersInPieces : S → List ℕ → Result (Unit {0}) PrintFault → S → Type 0
  AnswersInPieces old text (Ok _) new = WritesInPieces old text new
  AnswersInPieces old text (Err Write) new = StopsInPieces old text new
  AnswersInPieces old text (Err Memory) new = WritesPrefix old text new

-- A text that is written in pieces, as it is made.
use Rattle.std.proofs.Common.{◌≡◌, ℕ, ◌++◌, ◌∙◌, List, [], ◌∷◌, Result, Ok, Err, refl, sym, ap, ap₂, append_assoc, append-nil, subst}
use Rattle.std.proofs.{Common.⊎_elim, lemmas.List.Folds.concat-append}
use Rattle.lc_io.specs.{declared.{source.Failed.Failed, printing.PrintFault.{PrintFault, TheVariants.{Write, Memory}}}, Blocks.EmptiesFull}
use Rattle.lc_io.specs.{Blocks.{AnswersBlock, WritesAllBut}, Pieces.{WritesPieces, WritesInPieces, WritesPrefix, StopsInPieces}}
use Rattle.lc_io.specs.{Pieces.AnswersInPieces, Writes.{Writes, StopsWriting, AnswersPrint}}

module _ {S : Type 0} (may_take : S → List ℕ → Result ℕ Failed → S → Type 0) where
  -- one more piece
  pieces_more : (old : S) (pieces : List (List ℕ)) (mid : S) (piece : List ℕ) (new : S) → WritesPieces may_take old pieces mid
      → Writes may_take mid piece new → WritesPieces may_take old (pieces ++ piece ∷ []) new
  pieces_more old [] mid piece new is wrote = (new, subst (λ (s : S). Writes may_take s piece new) is wrote, refl)
  pieces_more old (p ∷ pieces) mid piece new run wrote = (run.0, run.1, pieces_more run.0 pieces mid piece new run.2 wrote)

  in_pieces-more : (old : S) (front : List ℕ) (mid : S) (piece : List ℕ) (new : S) → WritesInPieces may_take old front mid
      → Writes may_take mid piece new → WritesInPieces may_take old (front ++ piece) new
  in_pieces-more old front mid piece new run wrote = (
    run.0 ++ piece ∷ [],
    concat-append run.0 (piece ∷ []) ∙ ap₂ (λ xs ys. xs ++ ys) run.1 (append-nil piece),
    pieces_more old run.0 mid piece new run.2 wrote,
  )

  -- nothing was written of a text that is still empty
  pub all_but-start : (old : S) → WritesAllBut may_take old [] [] old
  all_but-start old = record { front = []; whole = refl; written = ([], refl, refl) }

  module _ (old : S) (text block : List ℕ) (mid : S) (but : WritesAllBut may_take old text block mid) where
    -- more was appended to the text, and to the block
    pub all_but-appended : (more longer : List ℕ) → longer ≡ block ++ more → WritesAllBut may_take old (text ++ more) longer mid
    all_but-appended more longer is = record {
      front = but.front;
      whole = ap (λ l. but.front ++ l) is ∙ (sym (append_assoc but.front block more) ∙ ap (λ l. l ++ more) but.whole);
      written = but.written;
    }

    -- the block was written whole
    pub all_but-emptied : (new : S) → Writes may_take mid block new → WritesAllBut may_take old text [] new
    all_but-emptied new wrote = record {
      front = but.front ++ block;
      whole = append-nil (but.front ++ block) ∙ but.whole;
      written = in_pieces-more old but.front mid block new but.written wrote;
    }

    -- the block was written whole if it was full
    pub all_but-printed : (new : S) (left : List ℕ) → EmptiesFull may_take mid block new left → WritesAllBut may_take old text left new
    all_but-printed new left =
        ⊎_elim (λ full. subst (λ (l : List ℕ). WritesAllBut may_take old text l new) (sym full.2) (all_but-emptied new full.1))
        (λ other. subst (λ (l : List ℕ). WritesAllBut may_take old text l new) (sym other.2)
        (subst (λ (s : S). WritesAllBut may_take old text block s) (sym other.1) but))

    -- at the end the block was written
    pub all_but-ended : (new : S) → Writes may_take mid block new → WritesInPieces may_take old text new
    all_but-ended new wrote =
        subst (λ (l : List ℕ). WritesInPieces may_take old l new) but.whole (in_pieces-more old but.front mid block new but.written wrote)

    -- a write stopped the block, whatever was to come after it
    pub all_but-stopped : (rest : List ℕ) (new : S) → StopsWriting may_take mid block new → StopsInPieces may_take old (text ++ rest) new
    all_but-stopped rest new stopped = (
      but.front,
      block,
      rest,
      ap (λ l. l ++ rest) (sym but.whole),
      mid,
      but.written,
      stopped,
    )

    -- the block was not printed, whatever was to come after it
    pub all_but-faulted : (fault : PrintFault) (rest : List ℕ) (new : S) (left : List ℕ)
        → AnswersBlock may_take mid block (Err fault) new left → AnswersInPieces may_take old (text ++ rest) (Err fault) new
    all_but-faulted Write rest new left stopped = all_but-stopped rest new stopped.1
    all_but-faulted Memory rest new left none = absurd none

    -- what was written is a prefix, whatever was to come
    pub all_but-prefix : (rest : List ℕ) → WritesPrefix may_take old (text ++ rest) mid
    all_but-prefix rest = (
      but.front,
      block ++ rest,
      ap (λ l. l ++ rest) (sym but.whole) ∙ append_assoc but.front block rest,
      but.written,
    )

    -- the end of the text was printed, or not
    pub all_but-answered : (answer : Result (Unit {0}) PrintFault) (new : S) → AnswersPrint may_take mid block answer new
        → AnswersInPieces may_take old text answer new
    all_but-answered (Ok _) new wrote = all_but-ended new wrote
    all_but-answered (Err Write) new stopped =
        subst (λ (l : List ℕ). StopsInPieces may_take old l new) (append-nil text) (all_but-stopped [] new stopped)
    all_but-answered (Err Memory) new same =
        subst (λ (s : S). WritesPrefix may_take old text s) (sym same)
        (subst (λ (l : List ℕ). WritesPrefix may_take old l mid) (append-nil text) (all_but-prefix []))

-- Lines that are explained and written in turn.
use Rattle.std.proofs.Common.{◌≡◌, ℕ, Bool, List, [], ◌∷◌, ◌++◌, Result, Ok, Err, refl, sym, subst, append-nil}
use Rattle.std.specs.Result.{IsErrAnd}
use Rattle.lc_io.specs.{declared.{source.Failed.Failed, printing.PrintFault.{PrintFault, TheVariants.Memory}}, Blocks.AnswersBlock}
use Rattle.lc_io.specs.{Blocks.{EmptiesFull, WritesAllBut}, Pieces.AnswersInPieces, Writes.AnswersPrint}
use Rattle.lc_level.proofs.PassedOn.{passed_on}
use Rattle.lc_paths.specs.declared.{outcome.Outcome.{Outcome, TheVariants.Clean}, style.PathStyle.PathStyle}
use Rattle.lc_paths.specs.Explanations.{Answers.{Explains, ExplainsLine, AnswersLines}, Explained.Explanation, ExplainText.explained_line}
use Rattle.lc_io.proofs.InPieces.{all_but-start, all_but-appended, all_but-printed, all_but-faulted, all_but-prefix, all_but-answered}
use Rattle.lc_paths.proofs.Explanations.OutputLines.{explained_none, explained_more, lines_done}

module _ {O : Type 0} (may_take : O → List ℕ → Result ℕ Failed → O → Type 0) (style : PathStyle)
    (Says : List ℕ → Bool → Explanation → Type 0) where
  -- these lines were explained, and their text was written but for what is still in the block
  pub record SoFar (lines : List (List ℕ)) (start : O) (block : List ℕ) (outcome : Outcome) (now : O) : Type 0 where
    pub made : List ℕ
    pub explains : Explains style Says lines made outcome
    pub written : WritesAllBut may_take start made block now

  pub so_far_none : (start : O) (block : List ℕ) (outcome : Outcome) → block ≡ [] → outcome ≡ Clean → SoFar [] start block outcome start
  so_far_none start block outcome empty clean =
      subst (λ (b : List ℕ). SoFar [] start b outcome start) (sym empty)
      (subst (λ (o : Outcome). SoFar [] start [] o start) (sym clean)
      (record { made = []; explains = explained_none style Says; written = all_but-start may_take start }))

  module _ (lines : List (List ℕ)) (start : O) (block : List ℕ) (outcome : Outcome) (now : O)
      (so_far : SoFar lines start block outcome now) where
    -- a line more
    pub so_far_told : (line longer : List ℕ) (after : Outcome) → ExplainsLine style Says line block longer outcome after
        → SoFar (lines ++ line ∷ []) start longer after now
    so_far_told line longer after here = record {
      made = so_far.made ++ explained_line style line here.x;
      explains = explained_more style Says lines so_far.made block longer outcome after line so_far.explains here;
      written = all_but-appended may_take start so_far.made block now so_far.written (explained_line style line here.x) longer
          here.text_is;
    }

    -- the block was written if it was full
    pub so_far_printed : (new : O) (left : List ℕ) → EmptiesFull may_take now block new left → SoFar lines start left outcome new
    so_far_printed new left emptied = record {
      made = so_far.made;
      explains = so_far.explains;
      written = all_but-printed may_take start so_far.made block now so_far.written new left emptied;
    }

    module _ (all rest : List (List ℕ)) (are : lines ++ rest ≡ all) where
      stops : (fault : PrintFault) (new : O) → AnswersInPieces may_take start so_far.made (Err fault) new
          → AnswersLines may_take style Says all start (Err fault) new
      stops fault new answers = record {
        first = lines;
        rest = rest;
        are = are;
        text = so_far.made;
        outcome = outcome;
        explains = so_far.explains;
        holds = answers;
      }

      -- this fault is passed on
      faulted : (fault : PrintFault) (new : O) (answer : Result Outcome PrintFault) → IsErrAnd answer (λ e. e ≡ fault)
          → AnswersInPieces may_take start so_far.made (Err fault) new → AnswersLines may_take style Says all start answer new
      faulted fault new answer is answers =
          passed_on (λ a. AnswersLines may_take style Says all start a new) answer fault is (stops fault new answers)

      -- a write stopped the block
      pub so_far_stopped : (fault : PrintFault) (new : O) (left : List ℕ) (answer : Result Outcome PrintFault)
          → AnswersBlock may_take now block (Err fault) new left → IsErrAnd answer (λ e. e ≡ fault)
          → AnswersLines may_take style Says all start answer new
      so_far_stopped fault new left answer stopped is =
          faulted fault new answer is (subst (λ (text : List ℕ). AnswersInPieces may_take start text (Err fault) new)
          (append-nil so_far.made) (all_but-faulted may_take start so_far.made block now so_far.written fault [] new left stopped))

      -- there was no memory for the next line
      pub so_far_refused : (answer : Result Outcome PrintFault) → IsErrAnd answer (λ e. e ≡ Memory)
          → AnswersLines may_take style Says all start answer now
      so_far_refused answer is =
          faulted Memory now answer is (subst (λ (text : List ℕ). AnswersInPieces may_take start text (Err Memory) now)
          (append-nil so_far.made) (all_but-prefix may_take start so_far.made block now so_far.written []))

      -- the last block was written, or not
      pub so_far_ended : rest ≡ [] → (new : O) → AnswersPrint may_take now block (Ok tt) new
          → AnswersLines may_take style Says all start (Ok outcome) new
      so_far_ended none new printed = (
        so_far.made,
        subst (λ (l : List (List ℕ)). Explains style Says l so_far.made outcome) (lines_done lines all rest are none) so_far.explains,
        all_but-answered may_take start so_far.made block now so_far.written (Ok tt) new printed,
      )

      pub so_far_cut : (fault : PrintFault) (new : O) (answer : Result Outcome PrintFault) → AnswersPrint may_take now block (Err fault) new
          → IsErrAnd answer (λ e. e ≡ fault) → AnswersLines may_take style Says all start answer new
      so_far_cut fault new answer stopped is =
          faulted fault new answer is (all_but-answered may_take start so_far.made block now so_far.written (Err fault) new stopped)

  -- there was no memory before the first line
  pub refused_first : (lines : List (List ℕ)) (out : O) (answer : Result Outcome PrintFault) → IsErrAnd answer (λ e. e ≡ Memory)
      → AnswersLines may_take style Says lines out answer out
  refused_first lines out = so_far_refused [] out [] Clean out (so_far_none out [] Clean refl refl) lines lines refl

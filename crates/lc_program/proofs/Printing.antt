-- How reports are shown, and answers written.
use Rattle.std.proofs.Common.{◌≡◌, ◌∙◌, ℕ, List, Result, ap, refl, subst₂}
use Rattle.lc_io.specs.declared.source.Failed.{Failed}
use Rattle.lc_program.specs.{Replies.{AnswerModel, Reply, WritesAnswer}, ReportTexts.showing}
use Rattle.lc_sheet.specs.{Conditions.ConditionModel, declared.table_options.TableOptions.TableOptions}
use Rattle.lc_text.specs.declared.lines.PathEnd.{PathEnd}

-- how a report is shown, by what is equal to it
pub same_showing : (title named chosen words : List ℕ) (conditions kept : List ConditionModel) (table asked : TableOptions)
    (attributes columns : List (List ℕ)) (end ended : PathEnd) → title ≡ named → chosen ≡ words → conditions ≡ kept → table ≡ asked
    → attributes ≡ columns → end ≡ ended
    → showing title chosen conditions table attributes end ≡ showing named words kept asked columns ended
same_showing title named chosen words conditions kept table asked attributes columns end ended a w b c d e = rw (a, w, b, c, d, e) refl

-- an answer that was written, by what is equal to its text, to what is known of it, and to its lines for standard error
pub answer_written : {O : Type 0} (may_take : O → List ℕ → Result ℕ Failed → O → Type 0) (text shown made told : List ℕ)
    (known : List ℕ → AnswerModel) (a : AnswerModel) (out : O) (reply : Reply) (wrote : O) → text ≡ shown → a ≡ known made → made ≡ told
    → WritesAnswer may_take text a out reply wrote → WritesAnswer may_take shown (known told) out reply wrote
answer_written may_take text shown made told known a out reply wrote same is says written =
    subst₂ (λ t b. WritesAnswer may_take t b out reply wrote) same (is ∙ ap known says) written

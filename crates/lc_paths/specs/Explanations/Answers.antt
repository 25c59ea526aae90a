-- The results of a call that explains paths, by its reads and its writes.
use Rattle.std.specs.{Prelude.{◌≡◌, ◌++◌, if◌then◌else◌, ℕ, Bool, cond, List, Result, Ok, Err, map}, List.AllByRecursion}
use Rattle.lc_io.specs.{Reads.Answer, declared.{source.Failed.Failed, printing.PrintFault.PrintFault}, Pieces.WritesInPieces}
use Rattle.lc_io.specs.Pieces.{AnswersInPieces}
use Rattle.lc_text.specs.{Lines.input_paths_of, declared.lines.PathEnd.PathEnd}
use Rattle.lc_paths.specs.declared.{check_fault.CheckFault.CheckFault, style.PathStyle.PathStyle}
use Rattle.lc_paths.specs.declared.outcome.Outcome.{Outcome, TheVariants.{Clean, SomeFaults}}
use Rattle.lc_paths.specs.{declared.explaining.explain_options.ExplainOptions.ExplainOptions, Answers.AnswersAsMade}
use Rattle.lc_paths.specs.Explanations.Explained.{Explanation, IsExplained}
use Rattle.lc_paths.specs.Explanations.ExplainText.{Told, named_path, names_dir, explained_line, told_text, is_fault, has_fault}
use Rattle.lc_paths.specs.Explanations.OpenDirs.{MayEnter}
use Rattle.lc_tree.specs.Trees.{Listings, Contents}

-- the explanations that a path may have, by what the listings and the files of a tree may answer, and by the options
abbrev pub MaySay : (List ℕ → Listings) → (List ℕ → Contents) → ExplainOptions → List ℕ → Bool → Explanation → Type 0
MaySay lists gives options path as_dir x =
    IsExplained (MayEnter lists gives) options.filters.now path as_dir x

abbrev pub outcome_of : List Told → Outcome
outcome_of told = cond (has_fault told) SomeFaults Clean

module _ (style : PathStyle) (Says : List ℕ → Bool → Explanation → Type 0) where
  -- the output for these lines, in this style: each line has an explanation that its path may have; and whether a directory had an error
  pub record Explains (lines : List (List ℕ)) (text : List ℕ) (outcome : Outcome) : Type 0 where
    pub told : List Told
    pub lines_are : map (λ (t : Told). t.0) told ≡ lines
    pub said : AllByRecursion (λ (t : Told). Says (named_path t.0) (names_dir t.0) t.1) told
    pub text_is : text ≡ told_text style told
    pub outcome_is : outcome ≡ outcome_of told

  -- the first of these lines were explained, and `Holds` is true of their output
  pub record ExplainsFirst (lines : List (List ℕ)) (Holds : List ℕ → Type 0) : Type 0 where
    pub first : List (List ℕ)
    pub rest : List (List ℕ)
    pub are : first ++ rest ≡ lines
    pub text : List ℕ
    pub outcome : Outcome
    pub explains : Explains first text outcome
    pub holds : Holds text

  -- one more line was explained: the output before it and after it, and whether a directory had an error
  pub record ExplainsLine (line old new : List ℕ) (before after : Outcome) : Type 0 where
    pub x : Explanation
    pub said : Says (named_path line) (names_dir line) x
    pub text_is : new ≡ old ++ explained_line style line x
    pub outcome_is : after ≡ (if is_fault x then SomeFaults else before)

module _ {O : Type 0} (may_take : O → List ℕ → Result ℕ Failed → O → Type 0) (style : PathStyle)
    (Says : List ℕ → Bool → Explanation → Type 0) where
  -- the result of explaining lines, whose output is written while it is made. Either all output was written, or a prefix of the output for
  -- the first lines, because a write stopped or there was no memory for the rest
  abbrev pub AnswersLines : List (List ℕ) → O → Result Outcome PrintFault → O → Type 0
  AnswersLines lines out (Ok outcome) wrote =
      (text : List ℕ) × Explains style Says lines text outcome × WritesInPieces may_take out text wrote
  AnswersLines lines out (Err fault) wrote = ExplainsFirst style Says lines (λ text. AnswersInPieces may_take out text (Err fault) wrote)

  -- the result of explaining the paths of an input, which end as `end` says
  abbrev pub AnswersExplain : PathEnd → {I : Type 0} → (I → ℕ → Answer → I → Type 0) → I → O → Result Outcome CheckFault → I → O → Type 0
  AnswersExplain end may_give = AnswersAsMade may_give (λ bytes. AnswersLines (input_paths_of end bytes))

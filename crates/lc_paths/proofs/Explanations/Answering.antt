-- What a call answers, by what was told and how it was written.
use Rattle.std.proofs.Common.{◌≡◌, ℕ, List, Result, subst}
use Rattle.lc_io.specs.declared.{source.Failed.Failed, printing.PrintFault.PrintFault}
use Rattle.lc_level.specs.Filters.{FiltersModel}
use Rattle.lc_paths.specs.declared.{outcome.Outcome.Outcome, style.PathStyle.PathStyle}
use Rattle.lc_paths.specs.{declared.explaining.explain_options.ExplainOptions.ExplainOptions, Explanations.Answers.{MaySay, AnswersLines}}
use Rattle.lc_paths.specs.Explanations.{Explained.IsExplained, OpenDirs.MayEnter}
use Rattle.lc_tree.specs.Trees.{Listings, Contents}

module _ {O : Type 0} (may_take : O → List ℕ → Result ℕ Failed → O → Type 0) where
  -- what is answered by the parts of a question is answered by the question
  module _ {Tr : Type 0} (lists : Tr → List ℕ → Listings) (gives : Tr → List ℕ → Contents) (lines : List (List ℕ)) (out : O)
      (answer : Result Outcome PrintFault) (wrote : O) where
    abbrev By : Tr → FiltersModel → PathStyle → Type 0
    By t f style = AnswersLines may_take style (IsExplained (MayEnter (lists t) (gives t)) f) lines out answer wrote

    pub as_asked : (t u : Tr) (q : ExplainOptions) (f : FiltersModel) (style : PathStyle) → t ≡ u → f ≡ q.filters.now → style ≡ q.style
        → By t f style → AnswersLines may_take q.style (MaySay (lists u) (gives u) q) lines out answer wrote
    as_asked t u q f style tree filters printed answers =
        subst (λ (x : Tr). By x q.filters.now q.style) tree
        (subst (λ (x : FiltersModel). By t x q.style) filters (subst (λ (x : PathStyle). By t f x) printed answers))

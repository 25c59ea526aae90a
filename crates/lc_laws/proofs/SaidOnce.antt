-- Of each path one thing is said.
use Rattle.std.proofs.Common.{arith, ◌≡◌, ℕ, Bool, true, false, cond, List, [], ◌∷◌, ◌++◌, sym, ◌∙◌, Option, Result}
use Rattle.std.proofs.lemmas.Grind.{common_steps}
use Rattle.lc_paths.specs.Explanations.Explained.{Explanation, below, cited, said_for, said_beside, kind_asked, is_directory, OnTheWay}
use Rattle.lc_paths.specs.Explanations.Explained.{said_of_none, OnEntering, IsSaid, IsExplained}
use Rattle.lc_paths.specs.Explanations.OpenDirs.{OpenDirModel, DirStack, kind_in}
use Rattle.lc_glob.specs.Path.{segments_of}
use Rattle.lc_level.specs.{FaultLines.FaultLineModel, Job.JobModel, Level.{Reason, reason_for, child_job}, Filters.FiltersModel}
use Rattle.lc_level.specs.TopJob.{top_job}
use Rattle.lc_text.specs.PathLines.{is_bad_path}
use Rattle.lc_tree.specs.Trees.{Listings, Contents}
use Rattle.lc_laws.specs.{ByAnswers.EntersBy, OneExplanation.{AnswersOneExplanationLaw, OneExplanationLaw}}
use Rattle.lc_laws.proofs.{OneWay.{Entering, one_open_dir}, SameWay.said_by_way}

-- two things that are said on the way are the same, where they are in each case
on_one_way : (x y : Explanation) (reason : Option Reason) (is_there : Bool) (Skipped Other : Reason → Type 0)
    (Into Onto Beside Near : Type 0) → ((r : Reason) → Skipped r → Other r → x ≡ y) → (Into → Onto → x ≡ y) → (Beside → Near → x ≡ y)
    → OnTheWay reason is_there Skipped Into Beside → OnTheWay reason is_there Other Onto Near → x ≡ y
on_one_way x y reason is_there Skipped Other Into Onto Beside Near skipped_ones ins besides a b = grind (arith, common_steps)

module _ (Enters : Entering) (same_entered : (j : JobModel) (a b : Result OpenDirModel FaultLineModel) → Enters j a → Enters j b → a ≡ b)
    (s : FiltersModel) (as_dir : Bool) (x y : Explanation) where
  once_entered : (j : JobModel) (IsSaidBelow Tells : OpenDirModel → Type 0)
      → ((here : OpenDirModel) → IsSaidBelow here → Tells here → x ≡ y)
      → OnEntering Enters j x IsSaidBelow → OnEntering Enters j y Tells → x ≡ y
  once_entered j IsSaidBelow Tells same is so = grind (arith, common_steps)

  said_once : (names : List (List ℕ)) (stack : DirStack) (here : OpenDirModel) → IsSaid Enters s stack here names as_dir x
      → IsSaid Enters s stack here names as_dir y → x ≡ y
  said_once [] stack here a b = absurd a
  said_once (name ∷ []) stack here a b = a ∙ sym b
  said_once (name ∷ next ∷ names) stack here a b =
      on_one_way x y (reason_for s here.job name (kind_asked true (kind_in here.entries name))) (is_directory (kind_in here.entries name))
      (λ r. x ≡ said_for (cited s stack) below r) (λ r. y ≡ said_for (cited s stack) below r)
      (OnEntering Enters (child_job here.job name) x
      (λ child. IsSaid Enters s (stack ++ child ∷ []) child (next ∷ names) as_dir x))
      (OnEntering Enters (child_job here.job name) y
      (λ child. IsSaid Enters s (stack ++ child ∷ []) child (next ∷ names) as_dir y))
      (x ≡ said_beside s stack (child_job here.job name) (next ∷ names) as_dir)
      (y ≡ said_beside s stack (child_job here.job name) (next ∷ names) as_dir)
      (λ r e f. e ∙ sym f)
      (λ e f. once_entered (child_job here.job name) _ _ (λ child. said_once (next ∷ names) (stack ++ child ∷ []) child) e f)
      (λ e f. e ∙ sym f) a b

  explained_once : (path : List ℕ) → IsExplained Enters s path as_dir x
      → IsExplained Enters s path as_dir y → x ≡ y
  explained_once path = at (is_bad_path path)
    where
      at : (b : Bool)
          → cond b (x ≡ said_of_none path) (OnEntering Enters (top_job s) x
          (λ here. IsSaid Enters s (here ∷ []) here (segments_of path) as_dir x))
          → cond b (y ≡ said_of_none path) (OnEntering Enters (top_job s) y
          (λ here. IsSaid Enters s (here ∷ []) here (segments_of path) as_dir y)) → x ≡ y
      at true e f = e ∙ sym f
      at false e f = once_entered (top_job s) _ _ (λ here. said_once (segments_of path) (here ∷ []) here) e f

-- so it is by answers of which the same is read on the way
pub answers_one_explanation : AnswersOneExplanationLaw
answers_one_explanation t u q path as_dir x y listings agree said told =
    explained_once (EntersBy t) (λ j a b one other. sym one ∙ other) q.filters.now as_dir x y path
    said (said_by_way q.filters.now as_dir y t listings u path agree told)

-- and of what may be said, where the tree answers in one way
pub one_explanation : (lists : List ℕ → Listings) (gives : List ℕ → Contents) → OneExplanationLaw lists gives
one_explanation lists gives = grind (arith, common_steps, explained_once, one_open_dir)

-- The law that a path has one explanation.
use Rattle.std.specs.Prelude.{◌≡◌, ℕ, Bool, List}
use Rattle.lc_paths.specs.Explanations.{Answers.MaySay, Explained.Explanation}
use Rattle.lc_paths.specs.declared.explaining.explain_options.ExplainOptions.{ExplainOptions}
use Rattle.lc_level.specs.{Answers.Tree, OneAnswer.GivesOne}
use Rattle.lc_tree.specs.Trees.{Listings, Contents}
use Rattle.lc_walk.specs.GivenAnswers.{HasListings}
use Rattle.lc_laws.specs.ByAnswers.{top_asked, whole_asked, SaysBy, AgreeOnWay}

-- by the same options, a path has the same explanation in two states of a tree, if the same is read from both, of each directory on the way
-- to the path. The path may have a slash at its end
abbrev pub AnswersOneExplanationLaw : Type 0
AnswersOneExplanationLaw =
    (t u : Tree) (q : ExplainOptions) (path : List ℕ) (as_dir : Bool) (x y : Explanation) → HasListings (whole_asked q) (top_asked q) t
    → AgreeOnWay (whole_asked q) (top_asked q) t u path → SaysBy q t path as_dir x → SaysBy q u path as_dir y → x ≡ y

-- a path has one explanation, if the tree always answers a question in the same way
abbrev pub OneExplanationLaw : (List ℕ → Listings) → (List ℕ → Contents) → Type 0
OneExplanationLaw lists gives =
    GivesOne lists gives → (q : ExplainOptions) (path : List ℕ) (as_dir : Bool) (x y : Explanation)
    → MaySay lists gives q path as_dir x → MaySay lists gives q path as_dir y → x ≡ y

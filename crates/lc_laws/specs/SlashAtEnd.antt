-- The law that a slash at the end of a directory's path changes nothing.
use Rattle.std.specs.Prelude.{ℕ, true, false, List}
use Rattle.lc_paths.specs.Explanations.{Answers.MaySay, Explained.Explanation}
use Rattle.lc_paths.specs.declared.explaining.explain_options.ExplainOptions.{ExplainOptions}
use Rattle.lc_level.specs.{Answers.Tree, OneAnswer.GivesOne}
use Rattle.lc_tree.specs.{Trees.{Listings, Contents}, declared.entry.Kind.TheVariants.Dir}
use Rattle.lc_walk.specs.GivenAnswers.{HasListings}
use Rattle.lc_laws.specs.{ByAnswers.{top_asked, whole_asked, SaysBy, IsEntryBy}, Entries.IsEntry}

-- by given answers, the explanation of a directory's path with a slash at its end is also the explanation without it
abbrev pub AnswersSlashLaw : Type 0
AnswersSlashLaw =
    (t : Tree) (q : ExplainOptions) (path : List ℕ) (x : Explanation) → HasListings (whole_asked q) (top_asked q) t
    → IsEntryBy (whole_asked q) (top_asked q) t path Dir → SaysBy q t path true x → SaysBy q t path false x

-- if a tree always answers a question in the same way, an explanation that a directory's path may have with a slash at its end is also one
-- that it may have without
abbrev pub SlashLaw : (List ℕ → Listings) → (List ℕ → Contents) → Type 0
SlashLaw lists gives =
    GivesOne lists gives → (q : ExplainOptions) (path : List ℕ) (x : Explanation) → IsEntry lists path Dir
    → MaySay lists gives q path true x → MaySay lists gives q path false x

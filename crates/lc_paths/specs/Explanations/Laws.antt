-- What an explanation has in common with the level of a directory, by which a count goes.
use Rattle.std.specs.Prelude.{◌≡◌, ◌⊎◌, ℕ, List, MatchOption}
use Rattle.lc_level.specs.{Answers.{Item, directory_item, entry_of, name_of}, Job.JobModel, Level.{Fate, counted, failed, walked, skipped}}
use Rattle.lc_level.specs.{Level.{reason_for, fate_of, child_job}, Filters.FiltersModel}
use Rattle.lc_rules.specs.declared.rule_source.RuleSource.{RuleSource}
use Rattle.lc_tree.specs.declared.entry.Kind.TheVariants.{Dir}
use Rattle.lc_paths.specs.Explanations.Explained.{CitedRule, Explanation, ignored, included, unruled, cited, said_for, said_of}
use Rattle.lc_paths.specs.Explanations.OpenDirs.{DirStack}

-- no rule decides the path, or one that includes it again
abbrev pub IsSaidKept : Explanation → Type 0
IsSaidKept x = (x ≡ unruled) ⊎ ((rule : CitedRule) × (x ≡ included rule))

-- the explanation of an entry agrees with its fate: it is skipped for the same reason, or not skipped
abbrev pub Agrees : (RuleSource → ℕ → CitedRule) → Fate → Explanation → Type 0
Agrees cite (counted file) x = IsSaidKept x
Agrees cite (failed word) x = IsSaidKept x
Agrees cite (walked job) x = IsSaidKept x
Agrees cite (skipped kind reason) x = x ≡ said_for cite ignored reason

-- the explanation of each entry of a directory agrees with the entry's fate in the directory's level
abbrev pub EntryLaw : Type 0
EntryLaw =
    (f : FiltersModel) (stack : DirStack) (j : JobModel) (item : Item)
    → Agrees (cited f stack) (fate_of f j item) (said_of f stack j (name_of item) (entry_of item).kind)

-- a directory on the way to a path is skipped for the reason that explains the path; without a reason the level visits it, by the job by
-- which it is entered
abbrev pub IntoLaw : Type 0
IntoLaw =
    (f : FiltersModel) (j : JobModel) (name : List ℕ)
    → MatchOption (reason_for f j name Dir) (fate_of f j (directory_item name) ≡ walked (child_job j name))
    (λ reason. fate_of f j (directory_item name) ≡ skipped Dir reason)

-- What a walk with `include` patterns finds, compared with the walk without these patterns.
use Rattle.std.specs.{Prelude.{◌≡◌, ℕ, Bool, List, [], ◌∷◌, filter, Option, None, option_map}, List.flat_map}
use Rattle.lc_glob.specs.Path.{path_in}
use Rattle.lc_level.specs.{Answers.Tree, Job.JobModel, Level.FileLineModel, Filters.{FiltersModel, including, is_included, patterns_for}}
use Rattle.lc_rules.specs.IgnoreRules.{RuleModel, rules_of}
use Rattle.lc_walk.specs.{Found.{Found, found_file, found_fault, found_directory, found_skipped}, RecursiveWalk.walk_of}
use Rattle.lc_walk.specs.FoundReports.{directories_of}

-- the counted files, each with its directory
abbrev pub counted_in : Found → List (List ℕ × FileLineModel)
counted_in (found_file directory f) = (directory, f) ∷ []
counted_in (found_fault path word) = []
counted_in (found_directory path entries) = []
counted_in (found_skipped directory l) = []

abbrev pub counted_of : List Found → List (List ℕ × FileLineModel)
counted_of xs = flat_map counted_in xs

-- whether the patterns include this counted file
abbrev pub includes : Option (List RuleModel) → List ℕ × FileLineModel → Bool
includes patterns file = is_included (patterns_for patterns file.0) (path_in file.0 file.1.path)

-- `part` has the counted files of `all` that the patterns include, in the same order, and the same directories as `all`
pub record IsIncludedPart (patterns : Option (List RuleModel)) (all part : List Found) : Type 0 where
  pub files : counted_of part ≡ filter (includes patterns) (counted_of all)
  pub directories : directories_of part ≡ directories_of all

-- each walk with `include` patterns finds the included part of what the walk without them finds
abbrev pub IncludeLaw : Type 0
IncludeLaw =
    (filters : FiltersModel) (patterns : Option (List ℕ)) (depth : ℕ) (top : JobModel) (t : Tree)
    → IsIncludedPart (option_map rules_of patterns) (walk_of (including filters None) depth top t)
    (walk_of (including filters patterns) depth top t)

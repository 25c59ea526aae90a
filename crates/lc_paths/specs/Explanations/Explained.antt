-- The explanation of a path of a tree, on the way down to it from the top: gitignore(5), DESCRIPTION and PATTERN FORMAT, and
-- git-check-ignore(1), OUTPUT, on the rule that decides.
use Rattle.std.specs.Prelude.{◌≡◌, ℕ, Bool, true, false, cond, List, [], ◌∷◌, ◌++◌, Option, Some, None, Result, MatchResult}
use Rattle.std.specs.Option.{option_map_or}
use Rattle.lc_glob.specs.Path.{path_in, segments_of}
use Rattle.lc_level.specs.{FaultLines.FaultLineModel, Job.JobModel, Level.{Reason, reason_for, child_job}, ReasonWords.rule_of}
use Rattle.lc_level.specs.{Filters.FiltersModel, TopJob.top_job}
use Rattle.lc_rules.specs.{IgnoreChains.rules_in, IgnoreRules.RuleModel, Verdicts.last_match, declared.rule_source.RuleSource.RuleSource}
use Rattle.lc_text.specs.{RulePlaces.line_text, PathLines.{is_bad_path, is_top}}
use Rattle.lc_tree.specs.{Kinds.is_dir, declared.entry.Kind.{Kind, TheVariants.{File, Dir, Other}}}
use Rattle.lc_paths.specs.Explanations.OpenDirs.{OpenDirModel, DirStack, kind_in, text_in}

-- a rule as it is printed: the source of its file, the number of its line, and the text of that line
pub record CitedRule : Type 0 where
  pub source : RuleSource
  pub line : ℕ
  pub text : List ℕ

-- the explanation of a path: no entry can have it; a directory on the way to it has an error; this rule ignores the highest ignored
-- directory above it; this rule decides it, and ignores it or includes it again; no rule decides it; or a walk skips it, or a directory
-- above it, for this reason, which is no rule
pub data Explanation : Type 0 where
  bad : Explanation
  faulted : FaultLineModel → Explanation
  below : CitedRule → Explanation
  ignored : CitedRule → Explanation
  included : CitedRule → Explanation
  unruled : Explanation
  left_out : Reason → Explanation

-- a rule of the files that were read on the way, as it is printed
abbrev pub cited : FiltersModel → DirStack → RuleSource → ℕ → CitedRule
cited f stack source line = record { source = source; line = line; text = line_text (text_in f stack source) line }

-- the explanation of what is skipped for a reason: that a rule ignores it, or else that it is skipped
abbrev pub said_for : (RuleSource → ℕ → CitedRule) → (CitedRule → Explanation) → Reason → Explanation
said_for cite ignores reason = option_map_or (λ (rule : RuleSource × ℕ). ignores (cite rule.0 rule.1)) (rule_of reason) (left_out reason)

-- the explanation of an entry: by the reason to skip it, or else by the rule that decides it
abbrev pub said_by : (RuleSource → ℕ → CitedRule) → Option Reason → Option (RuleSource × RuleModel) → Explanation
said_by cite (Some reason) rule = said_for cite ignored reason
said_by cite None (Some rule) = included (cite rule.0 rule.1.line)
said_by cite None None = unruled

-- the kind by which rules are matched with a name: that of the tree's entry. A name without an entry is a file. A name before a slash, or
-- with a slash at its end, is a directory, unless the entry is neither a file nor a directory
abbrev pub kind_asked : Bool → Option Kind → Kind
kind_asked as_dir (Some (Other what)) = Other what
kind_asked as_dir (Some Dir) = Dir
kind_asked true (Some File) = Dir
kind_asked false (Some File) = File
kind_asked true None = Dir
kind_asked false None = File

abbrev pub is_directory : Option Kind → Bool
is_directory None = false
is_directory (Some kind) = is_dir kind

-- a name before the last of a path: there is a reason to skip it, or it is a directory of the tree, or it is none
abbrev pub OnTheWay : Option Reason → Bool → (Reason → Type 0) → Type 0 → Type 0 → Type 0
OnTheWay (Some reason) is_there Skipped Into Beside = Skipped reason
OnTheWay None true Skipped Into Beside = Into
OnTheWay None false Skipped Into Beside = Beside

-- the explanation by a name above: that the name is skipped for a reason, or else the explanation of the names below it
abbrev pub said_above : (RuleSource → ℕ → CitedRule) → Option Reason → Explanation → Explanation
said_above cite None after = after
said_above cite (Some reason) after = said_for cite below reason

module _ (f : FiltersModel) where
  -- the explanation by the last name of a path, in a directory or below one
  abbrev pub said_of : DirStack → JobModel → List ℕ → Kind → Explanation
  said_of stack j name kind =
      said_by (cited f stack) (reason_for f j name kind) (last_match (rules_in j.ignore) (path_in j.path name) (is_dir kind))

  -- the explanation of names below a place that does not exist or is no directory: it has no entries and no rule files, and those of the
  -- directories above decide
  abbrev pub said_beside : DirStack → JobModel → List (List ℕ) → Bool → Explanation
  said_beside stack j [] as_dir = unruled
  said_beside stack j (name ∷ []) as_dir = said_of stack j name (kind_asked as_dir None)
  said_beside stack j (name ∷ next ∷ names) as_dir =
      said_above (cited f stack) (reason_for f j name Dir) (said_beside stack (child_job j name) (next ∷ names) as_dir)

-- the explanation of a path that no entry has: `.` is the top directory itself, which no rule decides, and any other is bad
abbrev pub said_of_none : List ℕ → Explanation
said_of_none path = cond (is_top path) unruled bad

module _ (Enters : JobModel → Result OpenDirModel FaultLineModel → Type 0) where
  -- a directory is entered, and `Says` is true of it; or it has an error, which is the explanation
  abbrev pub OnEntering : JobModel → Explanation → (OpenDirModel → Type 0) → Type 0
  OnEntering j x Says =
      (entered : Result OpenDirModel FaultLineModel) × Enters j entered × MatchResult entered Says (λ fault. x ≡ faulted fault)

  module _ (f : FiltersModel) where
    -- `x` is the explanation of the names below the last directory of a stack
    abbrev pub IsSaid : DirStack → OpenDirModel → List (List ℕ) → Bool → Explanation → Type 0
    IsSaid stack here [] as_dir x = ⊥
    IsSaid stack here (name ∷ []) as_dir x = x ≡ said_of f stack here.job name (kind_asked as_dir (kind_in here.entries name))
    IsSaid stack here (name ∷ next ∷ names) as_dir x =
        OnTheWay (reason_for f here.job name (kind_asked true (kind_in here.entries name))) (is_directory (kind_in here.entries name))
        (λ reason. x ≡ said_for (cited f stack) below reason)
        (OnEntering (child_job here.job name) x (λ child. IsSaid (stack ++ child ∷ []) child (next ∷ names) as_dir x))
        (x ≡ said_beside f stack (child_job here.job name) (next ∷ names) as_dir)

    -- `x` is the explanation of a path, from the top of the tree down; `as_dir` says that the path is that of a directory
    abbrev pub IsExplained : List ℕ → Bool → Explanation → Type 0
    IsExplained path as_dir x =
        cond (is_bad_path path) (x ≡ said_of_none path)
        (OnEntering (top_job f) x (λ here. IsSaid (here ∷ []) here (segments_of path) as_dir x))

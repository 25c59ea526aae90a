-- The rules that decide the directories above a path, found in one pass.
use Rattle.std.specs.Prelude.{ℕ, ◌≡◌, ◌<◌, ◌≤◌, ◌+◌, Bool, true, List, length, take, slice_index_or, Option, None, option_map, is_some}
use Rattle.std.specs.Borrow.{Bor}
use Rattle.lc_glob.specs.{Above.names_of, Path.segments_of}
use Rattle.lc_rules.specs.{IgnoreRules.RuleModel, Verdicts.{at_depth, last_match}, declared.rule_source.RuleSource.TheVariants.Gitignore}

-- the rules of a file, a path, and whether the path is that of a directory: the rules are matched with it and the directories above it
pub record AboveModel : Type 0 where
  pub rules : List RuleModel
  pub path : List ℕ
  pub is_dir : Bool

-- `found` has, for each of the first `count` directories, the last rule that matches it; directory k has the first k + 1 of these names
abbrev pub AreDecided : List RuleModel → List (List ℕ) → ℕ → List (Option (Bor RuleModel)) → Type 0
AreDecided rules names count found =
    (k : ℕ) (directory : List ℕ) → k < count → segments_of directory ≡ take (k + 1) names
    → option_map (λ r. (Gitignore 0, r.now)) (slice_index_or found k None) ≡ last_match (at_depth 0 rules) directory true

-- `found` is the last rule that matches the path with these names
abbrev pub IsOwn : List RuleModel → List (List ℕ) → Bool → Option (Bor RuleModel) → Type 0
IsOwn rules names is_dir found =
    (path : List ℕ) → segments_of path ≡ names
    → option_map (λ r. (Gitignore 0, r.now)) found ≡ last_match (at_depth 0 rules) path is_dir

-- the first `count` of these ends are where directories above a path end: directory k has the first k + 1 of these names
abbrev pub AreCut : List ℕ → List ℕ → List (Bor (List ℕ)) → ℕ → Type 0
AreCut path ends names count =
    (k : ℕ) → k < count → segments_of (take (slice_index_or ends k 0) path) ≡ names_of (take (k + 1) names)

-- a rule was found for each of the first `count` directories
abbrev pub AreFound : List (Option (Bor RuleModel)) → ℕ → Type 0
AreFound found count = (count ≤ length found) × ((k : ℕ) → k < count → is_some (slice_index_or found k None) ≡ true)

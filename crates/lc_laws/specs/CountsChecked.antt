-- The law that a count and a check agree, if the only ignore file is the top's `.gitignore`.
use Rattle.std.specs.{Prelude.{◌≡◌, ◌⊎◌, ℕ, true, false, List, [], ◌∷◌, Option, Some, None, Ok, codes}, List.Contains}
use Rattle.lc_glob.specs.Path.{segments_of}
use Rattle.lc_level.specs.{Answers.{Item, Tree}, Job.JobModel, Level.by_rule, OneAnswer.GivesOne, RuleFiles.{RuleBytes, rule_bytes}}
use Rattle.lc_level.specs.{Filters.{FiltersModel, no_filters}, FileReads.MayReadRules}
use Rattle.lc_rules.specs.{IgnoreRules.{RuleModel, rules_of}, declared.rule_source.RuleSource.RuleSource}
use Rattle.lc_paths.specs.Checks.CheckText.{file_verdict, path_word}
use Rattle.lc_text.specs.PathLines.{is_bad_path}
use Rattle.lc_tree.specs.{Kinds.is_dir, Trees.{Listings, Contents}, declared.entry.Kind.{Kind, TheVariants.File}}
use Rattle.lc_walk.specs.{FoundAt.LeadsTo, GivenAnswers.{HasListings, IsReportBy}, WalkOptions.{asked_by, top_of}, Walks.Walks}
use Rattle.lc_walk.specs.declared.{options.Options.Options, report.Report.Report}
use Rattle.lc_laws.specs.{ByAnswers.IsEntryBy, Entries.{HasListed, IsEntry}, ReportedPaths.{IsSkipped, IsSkippedAbove}}

-- the only ignore file of a tree is the top's `.gitignore`, with these bytes
pub record HasTopRules (lists : List ℕ → Listings) (gives : List ℕ → Contents) (bytes : List ℕ) : Type 0 where
  pub there : HasListed lists [] (codes ".gitignore") File
  pub read : MayReadRules (gives (codes ".gitignore")) (Ok bytes)
  pub no_info : HasListed lists (codes ".git/info") (codes "exclude") File → ⊥
  pub no_other : (directory : List ℕ) → (directory ≡ [] → ⊥) → HasListed lists directory (codes ".gitignore") File → ⊥

-- the bytes of the `.gitignore` of a directory at this place: `bytes` at the top, and none elsewhere
abbrev pub text_at : List ℕ → List (List ℕ) → Option (List ℕ)
text_at bytes [] = Some bytes
text_at bytes (name ∷ place) = None

-- by the answers of a tree, the only ignore file of the directories that a walk lists is the top's `.gitignore`, with these bytes
abbrev pub ReadsTopRules : FiltersModel → JobModel → Tree → List ℕ → Type 0
ReadsTopRules s top t bytes =
    (place : List (List ℕ)) (k : JobModel) (items : List Item) (files : RuleBytes) → LeadsTo s top t place k → (t place).here ≡ Ok items
    → rule_bytes k.ignore.no_ignore k.path items (t place) ≡ Ok files → (files.info.rules ≡ None) × (files.own.rules ≡ text_at bytes place)

-- a count that lists what it skips, by the rules of the tree alone
pub record AsksRulesAlone (o : Options) : Type 0 where
  pub left_out : o.lists.left_out ≡ true
  pub filters : (asked_by o).filters ≡ no_filters

-- a check by these rules answers `ignored` or `below` for a path of this kind
abbrev pub IsCheckedOut : List RuleModel → List ℕ → Kind → Type 0
IsCheckedOut rules path kind =
    (path_word (file_verdict rules) path (is_dir kind) ≡ codes "ignored")
    ⊎ (path_word (file_verdict rules) path (is_dir kind) ≡ codes "below")

-- a report has the path, or a directory above it, as skipped by a rule
abbrev pub IsRuledOut : Report → List ℕ → Type 0
IsRuledOut r path =
    (source : RuleSource) × (line : ℕ) × (IsSkipped r path (by_rule source line) ⊎ IsSkippedAbove r path (by_rule source line))

-- if nothing had an error, the check says that a path is ignored exactly if the report says so. The path is not bad, and none of its names
-- is `.git`
abbrev pub CheckAgrees : Report → List RuleModel → List ℕ → Kind → Type 0
CheckAgrees r rules path kind =
    r.faults.items ≡ [] → is_bad_path path ≡ false → (Contains (segments_of path) (codes ".git") → ⊥)
    → (IsCheckedOut rules path kind → IsRuledOut r path) × (IsRuledOut r path → IsCheckedOut rules path kind)

-- the check agrees for each entry with the report by given answers
abbrev pub AnswersCheckedLaw : Type 0
AnswersCheckedLaw =
    (t : Tree) (bytes : List ℕ) (o : Options) (r : Report) → AsksRulesAlone o → HasListings (asked_by o).filters (top_of o) t
    → ReadsTopRules (asked_by o).filters (top_of o) t bytes → IsReportBy t o r → (path : List ℕ) (kind : Kind)
    → IsEntryBy (asked_by o).filters (top_of o) t path kind → CheckAgrees r (rules_of bytes) path kind

-- the check agrees for each entry with the report of a walk of a tree that always answers a question in the same way
abbrev pub CheckedLaw : (List ℕ → Listings) → (List ℕ → Contents) → Type 0
CheckedLaw lists gives =
    GivesOne lists gives → (bytes : List ℕ) → HasTopRules lists gives bytes → (o : Options) (r : Report) → AsksRulesAlone o
    → Walks lists gives o (Ok r) → (path : List ℕ) (kind : Kind) → IsEntry lists path kind → CheckAgrees r (rules_of bytes) path kind

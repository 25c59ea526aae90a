-- What becomes of the entries of all listed directories, as the report of a walk shows it.
use Rattle.std.specs.{Prelude.{◌≡◌, ◌≢◌, ℕ, ◌+◌, true, false, List, ◌++◌, length, map, Ok}, List.{Contains, AllByRecursion}}
use Rattle.std.specs.List.Sorted.{IsPermutation}
use Rattle.lc_glob.specs.Path.{path_in}
use Rattle.lc_level.specs.{Answers.{Item, entry_of, name_of, Tree}, FaultLines.FaultLineModel, Job.JobModel, Level.SkippedLineModel}
use Rattle.lc_level.specs.{Level.by_rule, Filters.FiltersModel, Narrowing.paths_in, declared.fault_word.FaultWord.TheVariants.Absent}
use Rattle.lc_rules.specs.{IgnoreChains.rules_in, IgnoreLaws.IsLastMatch, IgnoreRules.RuleModel, declared.rule_source.RuleSource.RuleSource}
use Rattle.lc_tree.specs.{Kinds.is_dir, Trees.{Listings, Contents}}
use Rattle.lc_walk.specs.{FoundAt.{IsListed, LeadsTo}, RecursiveWalk.walk_of, WalkOptions.asked_by, FoundReports.IsReportOf, Walks.Walks}
use Rattle.lc_walk.specs.declared.{options.{ReportLists.ReportLists, Options.Options}, report.Report.Report}

-- the line of the error of a requested path that is absent
abbrev pub absent_line : List ℕ → FaultLineModel
absent_line path = record { path = path; word = Absent }

-- each error is about a requested path that is absent, or has another word than `absent`. Each counted entry is a counted file, an error
-- with another word, a listed directory or a skipped entry; only the top is not an entry. An error with another word is about one file or
-- one directory, even if its path is that of a rule file
pub record IsAccounted (only : List (List ℕ)) (r : Report) : Type 0 where
  pub absent : List (List ℕ)
  pub asked : AllByRecursion (Contains only) absent
  pub others : List FaultLineModel
  pub present : AllByRecursion (λ (f : FaultLineModel). f.word ≢ Absent) others
  pub faults : IsPermutation (map absent_line absent ++ others) r.faults.items
  pub all : r.entries + 1 ≡ r.totals.files + length others + r.directories + length r.skipped.items

-- the report of each walk that lists its skipped entries accounts for all entries
abbrev pub EntriesLaw : (List ℕ → Listings) → (List ℕ → Contents) → Type 0
EntriesLaw lists gives =
    (o : Options) (r : Report) → Walks lists gives o (Ok r) → o.lists.left_out ≡ true → IsAccounted (paths_in (asked_by o).filters.only) r

-- the entry at this path is in a directory that the walk reaches. Of the rules that apply there, the last that matches the entry ignores
-- it. This rule is on this line of the file of this source
pub record IsIgnoredBy (filters : FiltersModel) (top : JobModel) (t : Tree) (path : List ℕ) (source : RuleSource) (line : ℕ)
    : Type 0 where
  pub place : List (List ℕ)
  pub job : JobModel
  pub leads : LeadsTo filters top t place job
  pub items : List Item
  pub inside : JobModel
  pub listed : IsListed job (t place) items inside
  pub item : Item
  pub has : Contains items item
  pub path_is : path ≡ path_in inside.path (name_of item)
  pub rule : RuleModel
  pub on_line : rule.line ≡ line
  pub ignores : rule.is_negated ≡ false
  pub decides : IsLastMatch (rules_in inside.ignore) path (is_dir (entry_of item).kind) (source, rule)

-- each entry that a report shows as skipped by a rule is ignored by that rule
abbrev pub RuleLaw : Type 0
RuleLaw =
    (lists : ReportLists) (filters : FiltersModel) (depth : ℕ) (top : JobModel) (t : Tree) (r : Report) →
    IsReportOf lists (walk_of filters depth top t) r →
    (entry : SkippedLineModel) (source : RuleSource) (line : ℕ) → Contains r.skipped.items entry → entry.reason ≡ by_rule source line →
    IsIgnoredBy filters top t entry.path source line

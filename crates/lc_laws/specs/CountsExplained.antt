-- The law that a count and an explanation agree.
use Rattle.std.specs.{Prelude.{◌≡◌, ◌⊎◌, ℕ, true, false, List, None, Ok}, List.Contains}
use Rattle.lc_paths.specs.Explanations.Answers.{MaySay}
use Rattle.lc_paths.specs.Explanations.Explained.{Explanation, bad, faulted, below, ignored, included, unruled, left_out}
use Rattle.lc_paths.specs.{Explanations.Laws.IsSaidKept, declared.explaining.explain_options.ExplainOptions.ExplainOptions}
use Rattle.lc_level.specs.{Answers.Tree, Level.{Reason, named_git, by_rule, by_attribute, not_included, other_kind}, OneAnswer.GivesOne}
use Rattle.lc_text.specs.PathLines.{is_bad_path}
use Rattle.lc_tree.specs.{Trees.{Listings, Contents}, declared.entry.Kind.Kind}
use Rattle.lc_walk.specs.{GivenAnswers.{HasListings, IsReportBy}, WalkOptions.{asked_by, top_of}, Walks.Walks}
use Rattle.lc_walk.specs.declared.{options.Options.Options, report.Report.Report}
use Rattle.lc_laws.specs.{ByAnswers.{SaysBy, AgreeOnWay, IsEntryBy}, Entries.IsEntry, ReportedPaths.{IsCounted, IsSkipped, IsKept}}
use Rattle.lc_laws.specs.ReportedPaths.{IsSkippedAbove}

-- a count of the whole tree that lists its files and what it skips, and an explanation by the same filters
pub record AskAlike (o : Options) (q : ExplainOptions) : Type 0 where
  pub files : o.lists.files ≡ true
  pub left_out : o.lists.left_out ≡ true
  pub filters : (asked_by o).filters ≡ q.filters.now
  pub whole : q.filters.now.only ≡ None

-- the explanation says that an entry is skipped for this reason: ignored by this rule, or left
abbrev pub IsSaidSkipped : Reason → Explanation → Type 0
IsSaidSkipped named_git x = x ≡ left_out named_git
IsSaidSkipped (by_rule source line) x = (text : List ℕ) × (x ≡ ignored (record { source = source; line = line; text = text }))
IsSaidSkipped (by_attribute name) x = x ≡ left_out (by_attribute name)
IsSaidSkipped not_included x = x ≡ left_out not_included
IsSaidSkipped (other_kind what) x = x ≡ left_out (other_kind what)

-- the explanation of an entry shows where the report has it. An error is one of the report's errors. If a rule ignores the entry, the
-- report skips the entry by this rule; if a rule ignores a directory above it, the report skips such a directory by this rule. If the
-- reason is no rule, the report skips the entry or a directory above it, for this reason. Any other entry is counted, or has an error, or
-- is a directory that is not skipped
abbrev pub TellsOf : Report → List ℕ → Kind → Explanation → Type 0
TellsOf r path kind bad = ⊥
TellsOf r path kind (faulted fault) = Contains r.faults.items fault
TellsOf r path kind (below rule) = IsSkippedAbove r path (by_rule rule.source rule.line)
TellsOf r path kind (ignored rule) = IsSkipped r path (by_rule rule.source rule.line)
TellsOf r path kind (included rule) = IsKept r path kind
TellsOf r path kind unruled = IsKept r path kind
TellsOf r path kind (left_out reason) = IsSkipped r path reason ⊎ IsSkippedAbove r path reason

-- a report agrees with the explanation of a path, which is that of an entry of these kinds
pub record AgreesOn (IsThere : Kind → Type 0) (r : Report) (path : List ℕ) (x : Explanation) : Type 0 where
  -- a counted file is explained as included, or as decided by no rule
  pub counted : IsCounted r path → IsSaidKept x
  -- a skipped entry is explained as skipped, for the same reason
  pub skipped : (reason : Reason) → IsSkipped r path reason → IsSaidSkipped reason x
  -- the explanation of an entry shows where the report has it
  pub told : (kind : Kind) → IsThere kind → TellsOf r path kind x

-- a report by given answers agrees with an explanation by other answers, if the same is read by both from each directory on the way to the
-- path. The path is not bad, and is explained without a slash at its end
abbrev pub AnswersExplainedLaw : Type 0
AnswersExplainedLaw =
    (t u : Tree) (o : Options) (q : ExplainOptions) (r : Report) → AskAlike o q → HasListings (asked_by o).filters (top_of o) t
    → IsReportBy t o r → (path : List ℕ) (x : Explanation) → is_bad_path path ≡ false
    → AgreeOnWay (asked_by o).filters (top_of o) t u path → SaysBy q u path false x
    → AgreesOn (IsEntryBy (asked_by o).filters (top_of o) t path) r path x

-- each report of a walk agrees with each explanation of such a path, if the tree always answers a question in the same way
abbrev pub ExplainedLaw : (List ℕ → Listings) → (List ℕ → Contents) → Type 0
ExplainedLaw lists gives =
    GivesOne lists gives → (o : Options) (q : ExplainOptions) (r : Report) → AskAlike o q → Walks lists gives o (Ok r)
    → (path : List ℕ) (x : Explanation) → is_bad_path path ≡ false → MaySay lists gives q path false x
    → AgreesOn (IsEntry lists path) r path x

-- A walk by answers that its tree may give: one state of the directories, as far as the walk read them.
use Rattle.std.specs.Prelude.{ℕ, ◌≤◌, List, Ok}
use Rattle.lc_level.specs.{Answers.Tree, Job.JobModel, Filters.FiltersModel, TreeAnswers.MayAnswer, WellFormed.IsWellFormed}
use Rattle.lc_tree.specs.Trees.{Listings, Contents}
use Rattle.lc_walk.specs.{FoundAt.LeadsTo, RecursiveWalk.walk_of, WalkOptions.{asked_by, top_of}, FoundReports.IsReportOf, Walks.Walks}
use Rattle.lc_walk.specs.declared.{options.Options.Options, report.Report.Report}

-- each directory that the walk reaches has a well-formed listing
abbrev pub HasListings : FiltersModel → JobModel → Tree → Type 0
HasListings filters j t = (place : List (List ℕ)) (k : JobModel) → LeadsTo filters j t place k → IsWellFormed (t place)

-- each directory that the walk reaches has answers that the tree may give, by its possible listings and file contents
abbrev pub IsGiven : (List ℕ → Listings) → (List ℕ → Contents) → FiltersModel → JobModel → Tree → Type 0
IsGiven lists gives filters j t =
    (place : List (List ℕ)) (k : JobModel) → LeadsTo filters j t place k → MayAnswer lists gives k.path (t place)

-- the report of a walk by these options if each directory answers as in the tree `t`
abbrev pub IsReportBy : Tree → Options → Report → Type 0
IsReportBy t o r = (depth : ℕ) → o.max_dirs ≤ depth → IsReportOf o.lists (walk_of (asked_by o).filters depth (top_of o) t) r

-- the report is that of the recursive walk over some answers that the tree may give
pub record IsByAnswers (lists : List ℕ → Listings) (gives : List ℕ → Contents) (o : Options) (r : Report) : Type 0 where
  pub answers : Tree
  pub listings : HasListings (asked_by o).filters (top_of o) answers
  pub given : IsGiven lists gives (asked_by o).filters (top_of o) answers
  pub report : IsReportBy answers o r

-- each report of a walk is the report by some answers that the tree may give
abbrev pub ByAnswersLaw : (List ℕ → Listings) → (List ℕ → Contents) → Type 0
ByAnswersLaw lists gives = (o : Options) (r : Report) → Walks lists gives o (Ok r) → IsByAnswers lists gives o r

-- When a row is true of its directory.
use Rattle.std.specs.Prelude.{◌≡◌, ℕ, ◌<◌, Bool, true, false, if◌then◌else◌, List, [], ◌∷◌, ◌++◌, length, map, take, Some}
use Rattle.lc_board.specs.{LegalHistory.posts_under, RowsInPlace.job_got, declared.{event.Event.Event, answers.Ended.Ended}}
use Rattle.lc_level.specs.{Answers.Answers, WellFormed.IsWellFormed, Job.JobModel, Level.{FileLineModel, Fate, Level, faulted_level}}
use Rattle.lc_level.specs.{Level.{listed_level, level, absent_faults, counted_in, failed_in, walked_in, skipped_in}, Filters.FiltersModel}
use Rattle.lc_level.specs.{Deep.has_too_deep, SitePaths.site_path}
use Rattle.lc_walk.specs.{Found.children_at, RowViews.{ChildModel, ListedRowModel}, Rows.{row_of, job_of}}
use Rattle.lc_walk.specs.declared.broken_cause.BrokenCause.{BrokenCause, TheVariants.{Memory, TooManyDirs, TooDeep}}
use Rattle.lc_walk.specs.declared.options.ReportLists.{ReportLists}
use Rattle.lc_walk.specs.declared.row.{FaultedRow.FaultedRow, BrokenRow.BrokenRow, Row.{Row, TheVariants.{Listed, Faulted, Broken}}}
use Rattle.lc_board.specs.declared.answers.Ended.TheVariants as ended

-- what was requested of a walk: the lists of its report, and the filters that decide besides the rules which entries are skipped
pub record Asked : Type 0 where
  pub lists : ReportLists
  pub filters : FiltersModel

abbrev pub counted_files : Level → List FileLineModel
counted_files (faulted_level path word) = []
counted_files (listed_level fates absent) = counted_in fates

-- the counted files of a directory with these answers
abbrev pub files_at : FiltersModel → JobModel → Answers → List FileLineModel
files_at filters j a = counted_files (level filters j a)

-- the jobs, of children or of posts
abbrev pub jobs_of : {A : Type 0} → List (A × JobModel) → List JobModel
jobs_of cs = map (λ c. c.1) cs

-- the children's names with the numbers of their posts
abbrev pub named : List (List ℕ × JobModel) → List (ℕ × JobModel) → List ChildModel
named [] posts = []
named (c ∷ cs) [] = []
named (c ∷ cs) (p ∷ ps) = record { name = c.0; number = p.0 } ∷ named cs ps

-- the row of a listed directory is true: it has what the fates of the directory's selected entries say, and the requested paths that are
-- absent. No entry is too deep
pub record SaysListed (ask : Asked) (r : ListedRowModel) (a : Answers) (posts : List (ℕ × JobModel)) : Type 0 where
  pub fates : List (List ℕ × Fate)
  pub absent : List (List ℕ)
  pub level_is : level ask.filters r.job a ≡ listed_level fates absent
  pub entries_are : r.entries ≡ length fates
  pub files_are : r.files ≡ (if ask.lists.files then counted_in fates else [])
  pub faults_are : r.faults ≡ absent_faults absent ++ failed_in fates
  pub skipped_are : r.skipped ≡ (if ask.lists.left_out then skipped_in fates else [])
  pub posts_are : jobs_of posts ≡ jobs_of (walked_in fates)
  pub children_are : r.children ≡ named (walked_in fates) posts
  pub shallow : has_too_deep ask.filters r.job a ≡ false

-- the row of a directory that could not be read is true: it has the error, and no child directory was posted
pub record SaysFaulted (ask : Asked) (r : FaultedRow) (a : Answers) (posts : List (ℕ × JobModel)) : Type 0 where
  pub level_is : level ask.filters r.job a ≡ faulted_level (site_path r.job.path r.site) r.word
  pub posts_are : posts ≡ []

-- the cause why a worker stopped work on a directory is true, given what was posted; `full` says whether some post of the row's pass was
-- answered Full
abbrev pub IsCause : Asked → Bool → JobModel → Answers → List (ℕ × JobModel) → BrokenCause → Type 0
IsCause ask full j a posts Memory = Unit {0}
IsCause ask full j a posts TooManyDirs = (full ≡ true) × (length posts < length (children_at ask.filters j a))
IsCause ask full j a posts TooDeep = has_too_deep ask.filters j a ≡ true

-- the row of a directory on which a worker stopped work is true: its cause is true, and the first of the child directories were posted
pub record SaysBroken (ask : Asked) (full : Bool) (r : BrokenRow) (a : Answers) (posts : List (ℕ × JobModel)) : Type 0 where
  pub posted : ℕ
  pub posts_are : jobs_of posts ≡ take posted (jobs_of (children_at ask.filters r.job a))
  pub cause_is : IsCause ask full r.job a posts r.cause

-- a row is true, and ended its number in the right way: a Faulted row by the event Fault, other rows by the event Return
abbrev pub Says : Asked → Bool → Ended Row → Answers → List (ℕ × JobModel) → Type 0
Says ask full (ended.Returned (Listed r)) a posts = SaysListed ask r a posts
Says ask full (ended.Returned (Faulted r)) a posts = ⊥
Says ask full (ended.Returned (Broken r)) a posts = SaysBroken ask full r a posts
Says ask full (ended.Faulted (Listed r)) a posts = ⊥
Says ask full (ended.Faulted (Faulted r)) a posts = SaysFaulted ask r a posts
Says ask full (ended.Faulted (Broken r)) a posts = ⊥

-- the row of a number is lawful with these answers: it is true of them and of the history, which may be the events of one pass
pub record IsLawful (ask : Asked) (full : Bool) (h : List (Event JobModel Row)) (i : ℕ) (e : Ended Row) (a : Answers) : Type 0 where
  pub job_is : job_got h i ≡ Some (job_of (row_of e))
  pub well_formed : IsWellFormed a
  pub says : Says ask full e a (posts_under i h)
